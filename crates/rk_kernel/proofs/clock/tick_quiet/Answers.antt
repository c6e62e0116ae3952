use Rattle.std.proofs.Common.{arith, refl, ap, ◌∙◌}
use Rattle.rk_model.specs.Scheduling.Ticks.{fire_all}
use Rattle.rk_parts.specs.Joined.{plain_of}
use Rattle.rk_kernel.proofs.TickLemmas.{clock_ticks, clock_ends}
use Rattle.rk_kernel.proofs.clock.tick_quiet.Goals as goal

pub returns-then-present-all-clause-step : goal.returns-then-present-all-clause-step
returns-then-present-all-clause-step c =
    let k = plain_of c.args.all.now in
    (clock_ends k c.requires.quiet (omega (arith, c.present.ensures, c.if-present-all.true, c.requires.ready.sound.present)), refl)

pub returns-clause-step : goal.returns-clause-step
returns-clause-step c =
    let k = plain_of c.args.all.now in
    clock_ticks k (plain_of c.fire_all.new.all) c.requires.quiet (omega (arith, c.present.ensures, c.if-present-all.false)) (c.fire_all.ensures.fired ∙ ap fire_all c.pass.ensures.passed)
