use Rattle.std.proofs.Common.{◌≡◌, ◌==◌, ◌||◌, ℕ, subst}
use Rattle.rk_parts.specs.Contributions.{flagged}
use Rattle.rk_parts.proofs.contribute.raise.Goals as goal

pub returns : goal.returns
returns c = subst (λ n. (u : ℕ) → flagged c.insert.new.self u ≡ ((n == u) || flagged c.args.flags.now u)) c.at.ensures.value c.insert.ensures
