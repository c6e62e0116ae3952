use Rattle.rk_agg.proofs.ShareLemmas.{noted_in, noted_out}
use Rattle.std.proofs.Common.{◌≡◌, ◌==◌, ◌||◌, ◌&&◌, not, ℕ, cond, ap, sym, subst, ◌∙◌}
use Rattle.rk_model.specs.IndexSets.{is_in}
use Rattle.rk_agg.proofs.aggregates.noted.Goals as goal

pub returns-then-there : goal.returns-then-there
returns-then-there c = λ i. noted_in c.args.index c.args.set c.insert.new.self (subst (λ n. (i : ℕ) → is_in c.insert.new.self i ≡ ((n == i) || is_in c.args.set i)) c.at.ensures.value c.insert.ensures) i ∙ ap (λ b. cond (c.args.index == i) b (is_in c.args.set i)) (sym c.if-there.true)

pub returns : goal.returns
returns c = λ i. noted_out c.args.index c.args.set c.remove.new.self (subst (λ n. (i : ℕ) → is_in c.remove.new.self i ≡ (not (n == i) && is_in c.args.set i)) c.at-2.ensures.value c.remove.ensures) i ∙ ap (λ b. cond (c.args.index == i) b (is_in c.args.set i)) (sym c.if-there.false)
