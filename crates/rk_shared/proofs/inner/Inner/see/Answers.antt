use Rattle.std.proofs.Common.{subst, refl}
use Rattle.rk_journal.specs.Logs.{entries_of}
use Rattle.rk_journal.specs.JournalViews.{JournalView}
use Rattle.rk_shared.specs.SeatSteps.{HasMet}
use Rattle.rk_shared.proofs.SeatStepLemmas.{has_met, meets}
use Rattle.rk_shared.proofs.inner.Inner.see.Goals as goal

pub returns-clause-met : goal.returns-clause-met
returns-clause-met g c =
    let m = meets {met = c.self.inside.journal} c.args.number c.args.mark c.self.invariant c.requires.mark.1 refl c.meet.ensures.mark c.meet.ensures.quiet in
    subst (λ (j : JournalView). HasMet g.N.RunName.scenario c.args.number (entries_of c.args.mark.front) (entries_of j.log)) c.self.view_is (has_met m)
