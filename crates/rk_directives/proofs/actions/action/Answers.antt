use Rattle.std.proofs.Common.{◌≡◌, Option, Some, None, IfSome, ap, ◌∙◌, sym, subst}
use Rattle.rk_model.specs.declared.entry.Reply.{Reply}
use Rattle.rk_model.specs.declared.scenario.Op.{Op}
use Rattle.rk_model.specs.declared.state.Thread.{Thread}
use Rattle.rk_model.specs.State.{Plain, thread_at, op_at}
use Rattle.rk_model.specs.Limits.{IsNear}
use Rattle.rk_model.proofs.BodyLemmas.{near_in}
use Rattle.rk_model.specs.Steps.{back, directive, action_on, action}
use Rattle.rk_parts.specs.declared.parts.AllParts.{AllParts}
use Rattle.rk_parts.specs.Joined.{plain_of}
use Rattle.rk_directives.specs.Does.{DoesAll}
use Rattle.rk_directives.proofs.DirectiveLemmas.LentLemmas.{all_narrow}
use Rattle.rk_directives.proofs.actions.action.Goals as goal

pub returns-in-Some : goal.returns-in-Some
unfolding action
returns-in-Some c =
    let all = c.args.all.now in
    let t = c.args.caller in
    let new : AllParts = record all { clusters = c.back.new.clusters } in
    let ended : (thread_at (plain_of all) t).finished ≡ Some c.in-Some.reply = ap (λ (x : Thread). x.finished) (sym c.requires.thread) ∙ c.in-Some.is in
    subst (λ (o : Option Reply). DoesAll (action_on (plain_of all) t o) c.back.result all new) (sym ended)
    (all_narrow all c.back.new.clusters (λ (k : Plain). back k t c.in-Some.reply) c.back.result c.requires.whole (c.back.ensures all.scenario))

-- the line of a body names a cluster that there may be, if it names one
pub perform_at-requires-clause-near : goal.perform_at-requires-clause-near
perform_at-requires-clause-near c =
    let s = c.args.all.now.scenario in
    let thread = c.args.thread.now in
    subst (λ (o : Option Op). IfSome o IsNear) (sym c.op_at-op.ensures) (near_in s.bodies thread.body thread.line c.requires.acts.sound.bodies)

pub returns-in-None : goal.returns-in-None
unfolding action
returns-in-None c =
    let all = c.args.all.now in
    let k = plain_of all in
    let t = c.args.caller in
    let ended : (thread_at k t).finished ≡ None = ap (λ (x : Thread). x.finished) (sym c.requires.thread) ∙ c.in-None.is in
    let op : c.op_at-op.result ≡ op_at all.scenario (thread_at k t).body (thread_at k t).line = c.op_at-op.ensures ∙ ap (λ (x : Thread). op_at all.scenario x.body x.line) c.requires.thread in
    subst (λ (o : Option Reply). DoesAll (action_on k t o) c.perform_at.result all c.perform_at.new.all) (sym ended)
    (subst (λ (o : Option Op). DoesAll (directive k t o) c.perform_at.result all c.perform_at.new.all) op c.perform_at.ensures)
