use Rattle.std.proofs.Common.{◌≡◌, ◌==◌, false, Some, None, arith, sym, ap, ◌∙◌, ⊎_elim}
use Rattle.std.specs.Bool.{if◌then◌else◌}
use Rattle.std.proofs.lemmas.Bool.Decides.{nat_tests}
use Rattle.rk_model.specs.declared.state.Thread.{Thread}
use Rattle.rk_model.specs.Scheduling.Running.{ready}
use Rattle.rk_model.proofs.BooleanLemmas.{equal_test}
use Rattle.rk_parts.specs.Joined.{joined}
use Rattle.rk_parts.proofs.processors.ready_in.Goals as goal

pub returns-then-thread_of-eq0 : goal.returns-then-thread_of-eq0
returns-then-thread_of-eq0 c = λ s table groups.
    let t = c.in-Runs.thread in
    let k = joined s table c.args.clusters.now groups in
    ap (λ b. if b then Some t else None) (sym (equal_test c.thread_of.result.left 0 c.if-thread_of-eq0.true) ∙ ap (λ (x : Thread). x.left == 0) c.thread_of.ensures) ∙ ap (ready k) (sym c.in-Runs.is)

pub returns-else-thread_of-eq0 : goal.returns-else-thread_of-eq0
returns-else-thread_of-eq0 c = λ s table groups.
    let t = c.in-Runs.thread in
    let k = joined s table c.args.clusters.now groups in
    let test : (c.thread_of.result.left == 0) ≡ false = grind (arith, nat_tests, c.if-thread_of-eq0.false) in
    ap (λ b. if b then Some t else None) (sym test ∙ ap (λ (x : Thread). x.left == 0) c.thread_of.ensures) ∙ ap (ready k) (sym c.in-Runs.is)

pub returns-in-Idle : goal.returns-in-Idle
returns-in-Idle c = λ s table groups.
    let k = joined s table c.args.clusters.now groups in
    ⊎_elim (λ e. ap (ready k) (sym e)) (λ e. ap (ready k) (sym e.1)) c.in-Idle.is
