use Rattle.std.proofs.Common.{◌≡◌, ◌==◌, false, Some, None, arith, sym, ap, ◌∙◌}
use Rattle.std.specs.Bool.{if◌then◌else◌}
use Rattle.std.proofs.lemmas.Bool.Decides.{nat_tests}
use Rattle.rk_model.specs.declared.entry.View.TheVariants.{Runs}
use Rattle.rk_model.specs.declared.state.Thread.{Thread}
use Rattle.rk_model.specs.Scheduling.Priorities.{is_spinning}
use Rattle.rk_model.specs.Scheduling.Running.{view_of, running, ready}
use Rattle.rk_model.proofs.BooleanLemmas.{equal_test}
use Rattle.rk_parts.specs.Hosted.{hosted_in}
use Rattle.rk_parts.specs.Joined.{joined}
use Rattle.rk_parts.proofs.HostedLemmas.{viewed}
use Rattle.rk_parts.proofs.NotedHostLemmas.{runs_own}
use Rattle.rk_parts.proofs.processors.caller_on.Goals as goal

pub returns-in-None : goal.returns-in-None
returns-in-None c = λ s table groups show.
    let parts = c.args.clusters.now in
    let k = joined s table parts groups in
    ap (ready k) (ap (λ o. view_of k o (hosted_in parts c.args.cpu)) (sym c.in-None.is ∙ c.cpu_of.ensures) ∙ viewed s table groups parts c.args.cpu show)

pub returns-then-is_spinning : goal.returns-then-is_spinning
returns-then-is_spinning c = λ s table groups show.
    let parts = c.args.clusters.now in
    let k = joined s table parts groups in
    c.ready_in.ensures s table groups
    ∙ ap (ready k) (c.view_with.ensures s table groups ∙ ap (λ o. view_of k o (hosted_in parts c.args.cpu)) (sym c.in-Some.is ∙ c.cpu_of.ensures) ∙ viewed s table groups parts c.args.cpu show)

pub returns-then-found-eq0 : goal.returns-then-found-eq0
returns-then-found-eq0 c = λ s table groups show.
    let t = c.in-Some.thread in
    let k = joined s table c.args.clusters.now groups in
    let here : Runs t ≡ running k c.args.cpu = runs_own s table groups c.args.clusters.now c.args.cpu t (sym c.cpu_of.ensures ∙ c.in-Some.is) (sym (c.is_spinning.ensures ∙ ap (λ (x : Thread). is_spinning x.wait) c.thread_of-found.ensures) ∙ c.if-is_spinning.false) show in
    ap (λ b. if b then Some t else None) (sym (equal_test c.thread_of-found.result.left 0 c.if-found-eq0.true) ∙ ap (λ (x : Thread). x.left == 0) c.thread_of-found.ensures) ∙ ap (ready k) here

pub returns-else-found-eq0 : goal.returns-else-found-eq0
returns-else-found-eq0 c = λ s table groups show.
    let t = c.in-Some.thread in
    let k = joined s table c.args.clusters.now groups in
    let here : Runs t ≡ running k c.args.cpu = runs_own s table groups c.args.clusters.now c.args.cpu t (sym c.cpu_of.ensures ∙ c.in-Some.is) (sym (c.is_spinning.ensures ∙ ap (λ (x : Thread). is_spinning x.wait) c.thread_of-found.ensures) ∙ c.if-is_spinning.false) show in
    let test : (c.thread_of-found.result.left == 0) ≡ false = grind (arith, nat_tests, c.if-found-eq0.false) in
    ap (λ b. if b then Some t else None) (sym test ∙ ap (λ (x : Thread). x.left == 0) c.thread_of-found.ensures) ∙ ap (ready k) here
