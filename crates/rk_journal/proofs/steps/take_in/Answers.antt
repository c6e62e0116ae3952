use Rattle.std.proofs.Common.{arith, ap, ◌∙◌}
use Rattle.rk_journal.proofs.JournalRuleLemmas.{joins_at, looks}
use Rattle.rk_journal.proofs.steps.take_in.Goals as goal

pub join_seat-requires : goal.join_seat-requires
join_seat-requires c =
    let s = c.requires.token in
    let o = c.requires.other in
    (s.0, o.0, ap (λ m. m.1) o.1, omega (arith, s.1), joins_at _ _ _ _ (ap (λ m. m.0) s.2) (ap (λ m. m.0) o.1))

pub load-requires : goal.load-requires
load-requires c =
    let s = c.requires.token in
    let j = c.join_seat.ensures in
    (j.0 ∙ s.0, omega (arith, s.1), looks _ _ _ _ (ap (λ m. m.0.owns) j.2 ∙ ap (λ m. m.0.owns) s.2))
