use Rattle.std.proofs.Common.{arith, refl, sym, ap, ◌∙◌}
use Rattle.rk_parts.specs.Seats.{seat_of}
use Rattle.rk_parts.proofs.LentSeatLemmas.{cpu_count_joined}
use Rattle.rk_kernel.proofs.clock.tick_core.Goals as goal

pub least_of-requires-clause-few : goal.least_of-requires-clause-few
least_of-requires-clause-few c =
    let all = c.args.all.now in
    omega (arith, c.requires.ready.sound.few_cpus, cpu_count_joined all.scenario all.table.names all.groups all.clusters c.requires.ready.whole.laid)

pub returns-in-Some-clause-step : goal.returns-in-Some-clause-step
returns-in-Some-clause-step c =
    let all = c.args.all.now in
    (sym (c.least_of.ensures.least all.table.names all.groups c.requires.ready.whole.held) ∙ ap seat_of c.in-Some.is, refl)

pub tick_quiet-requires-clause-quiet : goal.tick_quiet-requires-clause-quiet
tick_quiet-requires-clause-quiet c =
    let all = c.args.all.now in
    sym (c.least_of.ensures.least all.table.names all.groups c.requires.ready.whole.held) ∙ ap seat_of c.in-None.is
