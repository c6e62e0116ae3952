use Rattle.std.proofs.Common.{◌≡◌, ◌<◌, ◌≤◌, is_some, true, false, arith, sym, ap, ◌∙◌}
use Rattle.rk_model.specs.Scheduling.Running.{caller}
use Rattle.rk_model.specs.Scheduling.Seats.{cpu_count}
use Rattle.rk_parts.specs.Hosted.{ShowRunning}
use Rattle.rk_parts.specs.Joined.{joined}
use Rattle.rk_parts.proofs.LentSeatLemmas.{cpu_count_joined}
use Rattle.rk_parts.proofs.LeastProcessorLemmas.{least_here, least_later, least_nowhere}
use Rattle.rk_parts.proofs.processors.least_of.Goals as goal

pub returns-in-Some-clause-least : goal.returns-in-Some-clause-least
returns-in-Some-clause-least c = λ table groups held.
    let s = c.args.scenario.now in
    let parts = c.args.clusters.now in
    let k = joined s table parts groups in
    let show : ShowRunning s groups parts = record { laid = c.requires.laid; held = held; hosted = c.requires.hosted } in
    let p = c.loop-cpu.cpu in
    let count = cpu_count_joined s table groups parts c.requires.laid in
    let within : p < cpu_count k = omega (arith, c.loop-cpu-test.true, c.count_cpus-cpu-end.ensures, count) in
    let has : is_some (caller k p) ≡ true = ap is_some (sym (c.caller_on.ensures s table groups show) ∙ c.in-Some.is) in
    sym (least_here k p (cpu_count k) within has) ∙ c.loop-cpu.invariant table groups held

pub returns-in-Some-clause-found : goal.returns-in-Some-clause-found
returns-in-Some-clause-found c = λ table groups held.
    let s = c.args.scenario.now in
    let show : ShowRunning s groups c.args.clusters.now = record { laid = c.requires.laid; held = held; hosted = c.requires.hosted } in
    (sym (c.caller_on.ensures s table groups show) ∙ c.in-Some.is, omega (arith, c.loop-cpu-test.true, c.count_cpus-cpu-end.ensures))

pub loop-cpu-preserved : goal.loop-cpu-preserved
loop-cpu-preserved c = λ table groups held.
    let s = c.args.scenario.now in
    let parts = c.args.clusters.now in
    let k = joined s table parts groups in
    let show : ShowRunning s groups parts = record { laid = c.requires.laid; held = held; hosted = c.requires.hosted } in
    let p = c.loop-cpu.cpu in
    let count = cpu_count_joined s table groups parts c.requires.laid in
    let within : p < cpu_count k = omega (arith, c.loop-cpu-test.true, c.count_cpus-cpu-end.ensures, count) in
    let none : is_some (caller k p) ≡ false = ap is_some (sym (c.caller_on.ensures s table groups show) ∙ c.in_default.is) in
    sym (least_later k p (cpu_count k) within none) ∙ c.loop-cpu.invariant table groups held

pub returns-clause-least : goal.returns-clause-least
returns-clause-least c = λ table groups held.
    let s = c.args.scenario.now in
    let parts = c.args.clusters.now in
    let k = joined s table parts groups in
    let show : ShowRunning s groups parts = record { laid = c.requires.laid; held = held; hosted = c.requires.hosted } in
    let p = c.loop-cpu.cpu in
    let count = cpu_count_joined s table groups parts c.requires.laid in
    let past : cpu_count k ≤ p = omega (arith, c.loop-cpu-test.false, c.count_cpus-cpu-end.ensures, count) in
    sym (least_nowhere k p (cpu_count k) past) ∙ c.loop-cpu.invariant table groups held
