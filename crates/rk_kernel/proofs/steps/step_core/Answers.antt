use Rattle.std.proofs.Common.{◌≡◌, Some, refl, sym, ◌∙◌}
use Rattle.rk_model.specs.Scheduling.Running.{caller}
use Rattle.rk_parts.specs.Joined.{plain_of}
use Rattle.rk_kernel.proofs.PartsSettledLemmas.{shows}
use Rattle.rk_kernel.proofs.StepLemmas.{did}
use Rattle.rk_kernel.proofs.steps.step_core.Goals as goal

pub act_by-requires-clause-caller : goal.act_by-requires-clause-caller
act_by-requires-clause-caller c =
    let all = c.args.all.now in
    sym (c.caller_on.ensures all.scenario all.table.names all.groups (shows all c.requires.ready)) ∙ c.in-Some.is

pub returns-in-None-clause-step : goal.returns-in-None-clause-step
returns-in-None-clause-step c =
    let all = c.args.all.now in
    let show = shows all c.requires.ready in
    (sym (c.caller_on.ensures all.scenario all.table.names all.groups show) ∙ c.in-None.is, c.why_not.ensures all.scenario all.table.names all.groups show, refl)

pub returns-in-Some-clause-step : goal.returns-in-Some-clause-step
returns-in-Some-clause-step c =
    let all = c.args.all.now in
    let calls : caller (plain_of all) c.args.cpu ≡ Some c.in-Some.thread = sym (c.caller_on.ensures all.scenario all.table.names all.groups (shows all c.requires.ready)) ∙ c.in-Some.is in
    did (plain_of all) (plain_of c.act_by.new.all) c.args.cpu c.in-Some.thread c.act_by.result c.requires.cpu calls c.act_by.ensures.entry c.act_by.ensures.next
