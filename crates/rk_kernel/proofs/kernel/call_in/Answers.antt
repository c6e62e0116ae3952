use Rattle.std.proofs.Common.{◌≡◌, Some, ap, ◌∙◌, subst}
use Rattle.rk_model.specs.State.{Plain}
use Rattle.rk_model.specs.Scheduling.Running.{caller}
use Rattle.rk_parts.specs.Joined.{plain_of}
use Rattle.rk_kernel.specs.declared.steps.CoreStep.TheVariants.{Did}
use Rattle.rk_kernel.specs.Step.{IsStep}
use Rattle.rk_kernel.proofs.StepLemmas.{did, step_manned}
use Rattle.rk_kernel.proofs.kernel.call_in.Goals as goal

pub act_by-requires-clause-caller : goal.act_by-requires-clause-caller
act_by-requires-clause-caller c = ap (λ (k : Plain). caller k c.args.calling.cpu) c.parts.view_is ∙ c.requires.calls

pub invariant_of-parts : goal.invariant_of-parts
invariant_of-parts c =
    let old = plain_of c.parts.inside.all in
    let new = plain_of c.act_by.new.all in
    let calls : caller old c.args.calling.cpu ≡ Some c.args.calling.thread = ap (λ (k : Plain). caller k c.args.calling.cpu) c.parts.view_is ∙ c.requires.calls in
    let step = did old new c.args.calling.cpu c.args.calling.thread c.act_by.result c.requires.few calls c.act_by.ensures.entry c.act_by.ensures.next in
    (c.act_by.ensures.ready, step_manned old new c.args.calling.cpu (Did c.act_by.result) c.parts.invariant.0.sound c.parts.invariant.1 step)

pub returns : goal.returns
returns c =
    let old = plain_of c.parts.inside.all in
    let new = plain_of c.act_by.new.all in
    let calls : caller old c.args.calling.cpu ≡ Some c.args.calling.thread = ap (λ (k : Plain). caller k c.args.calling.cpu) c.parts.view_is ∙ c.requires.calls in
    subst (λ (k : Plain). IsStep k c.args.calling.cpu (Did c.act_by.result) new) c.parts.view_is (did old new c.args.calling.cpu c.args.calling.thread c.act_by.result c.requires.few calls c.act_by.ensures.entry c.act_by.ensures.next)
