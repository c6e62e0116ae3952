use Rattle.std.proofs.Common.{◌∙◌, ap, sym, subst, List}
use Rattle.std.specs.Prelude.{All}
use Rattle.rk_model.specs.declared.entry.Entry.{Entry}
use Rattle.rk_journal.specs.JournalViews.{JournalView}
use Rattle.rk_journal.specs.Logs.{entries_of}
use Rattle.rk_shared.specs.SeatViews.{IsSeenIn}
use Rattle.rk_shared.proofs.kernel.Kernel.close.Goals as goal

pub returns-clause-cpus : goal.returns-clause-cpus
returns-clause-cpus g c =
    let same = ap (λ (j : JournalView). entries_of j.log) (c.take_clock.ensures.same ∙ c.take_cpus.ensures.same) in
    subst (λ (es : List Entry). All (IsSeenIn es) c.args.cpus.items) (sym (c.into_history.ensures.entries ∙ same)) c.take_cpus.ensures.seen
