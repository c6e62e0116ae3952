use Rattle.std.proofs.Common.{List, subst}
use Rattle.rk_model.specs.declared.entry.Entry.{Entry}
use Rattle.rk_model.specs.Histories.{IsDone}
use Rattle.rk_model.proofs.LegalityLemmas.{done_whole}
use Rattle.rk_cli.proofs.PlanLemmas.{taken_by_run}
use Rattle.rk_cli.proofs.workers.run_named.Goals as goal

pub returns : goal.returns
returns g c =
    let l = c.close.ensures in
    let s = g.N.RunName.scenario in
    let history = c.close.result.history.entries in
    let seen = c.work-clock.result.front in
    let done = c.work-clock.ensures.done in
    taken_by_run s history c.requires.known l.legal l.within (subst (λ (es : List Entry). IsDone s.limit es) (done_whole s s.limit seen history l.legal l.within l.clock.begins done) done)
