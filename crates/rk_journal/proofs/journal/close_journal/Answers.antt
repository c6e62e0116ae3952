use Rattle.std.proofs.Common.{◌≡◌, ap, ◌∙◌, arith, length}
use Rattle.rk_journal.proofs.LogLemmas.{length-entries}
use Rattle.rk_journal.proofs.journal.close_journal.Goals as goal

pub free-requires : goal.free-requires
free-requires c = let n = c.close_with.ensures.counts in λ k h. absurd (omega (arith, h, n.1, c.journal.invariant.2))

pub returns-clause-within : goal.returns-clause-within
returns-clause-within c =
    let j = c.journal.inside in
    let n : length j.history.entries ≡ length j.token.me.0.list = ap length c.journal.invariant.4 ∙ length-entries j.token.me.0.list in
    omega (arith, n, c.journal.invariant.5, ap (λ b. b.limit) c.journal.view_is)
