use Rattle.std.proofs.Common.{◌≡◌, ap, ◌∙◌, arith, length}
use Rattle.rk_journal.proofs.LogLemmas.{length-entries}
use Rattle.rk_journal.proofs.journal.Journal.count.Goals as goal

pub overflow_cast-result : goal.overflow_cast-result
overflow_cast-result c =
    let n : length c.entries.result.now ≡ length c.self.inside.token.me.0.list = ap length (c.entries.ensures ∙ c.self.invariant.4) ∙ length-entries c.self.inside.token.me.0.list in
    omega (arith, n, c.self.invariant.5)

pub returns-clause-count : goal.returns-clause-count
returns-clause-count c = ap length (c.entries.ensures ∙ c.self.invariant.4) ∙ (length-entries c.self.inside.token.me.0.list ∙ ap (λ b. length b.log) c.self.view_is)

pub returns-clause-within : goal.returns-clause-within
returns-clause-within c =
    let n : length c.entries.result.now ≡ length c.self.inside.token.me.0.list = ap length (c.entries.ensures ∙ c.self.invariant.4) ∙ length-entries c.self.inside.token.me.0.list in
    omega (arith, n, c.self.invariant.5, ap (λ b. b.limit) c.self.view_is)
