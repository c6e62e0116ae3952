use Rattle.std.proofs.Common.{◌<◌, ◌≤◌, length, arith, sym, ◌∙◌}
use Rattle.rk_parts.specs.Joined.{threads_of}
use Rattle.rk_parts.proofs.PutLemmas.{length_threads}
use Rattle.rk_parts.specs.HeldChains.{waits_on_holder}
use Rattle.rk_directives.proofs.WaitChainLemmas.{walk_meets, walk_ends, walk_goes_on, walk_past}
use Rattle.rk_directives.proofs.chains.reaches.Goals as goal

pub returns-then-eq : goal.returns-then-eq
returns-then-eq c =
    let size = length_threads c.args.clusters.now in
    let more : c.loop-step._step < length (threads_of c.args.clusters.now) = omega (arith, size, c.loop-step-test.true) in
    sym (walk_meets (waits_on_holder c.args.clusters.now) (length (threads_of c.args.clusters.now)) c.loop-step._step c.loop-step.at c.args.to more (sym c.eq.ensures ∙ c.if-eq.true)) ∙ c.loop-step.invariant

pub returns-in-None : goal.returns-in-None
returns-in-None c =
    let size = length_threads c.args.clusters.now in
    let more : c.loop-step._step < length (threads_of c.args.clusters.now) = omega (arith, size, c.loop-step-test.true) in
    sym (walk_ends (waits_on_holder c.args.clusters.now) (length (threads_of c.args.clusters.now)) c.loop-step._step c.loop-step.at c.args.to more (sym c.eq.ensures ∙ c.if-eq.false) (sym c.waits_on.ensures ∙ c.in-None.is)) ∙ c.loop-step.invariant

pub loop-step-preserved : goal.loop-step-preserved
loop-step-preserved c =
    let size = length_threads c.args.clusters.now in
    let more : c.loop-step._step < length (threads_of c.args.clusters.now) = omega (arith, size, c.loop-step-test.true) in
    walk_goes_on (waits_on_holder c.args.clusters.now) (length (threads_of c.args.clusters.now)) c.loop-step._step c.loop-step.at c.in-Some.next c.args.to more (sym c.eq.ensures ∙ c.if-eq.false) (sym c.waits_on.ensures ∙ c.in-Some.is) ∙ c.loop-step.invariant

pub returns : goal.returns
returns c =
    let size = length_threads c.args.clusters.now in
    let past : length (threads_of c.args.clusters.now) ≤ c.loop-step._step = omega (arith, size, c.loop-step-test.false) in
    sym (walk_past (waits_on_holder c.args.clusters.now) (length (threads_of c.args.clusters.now)) c.loop-step._step c.loop-step.at c.args.to past) ∙ c.loop-step.invariant
