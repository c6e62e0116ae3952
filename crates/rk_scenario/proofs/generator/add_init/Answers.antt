use Rattle.std.proofs.Common.{◌<◌, append_assoc, arith}
use Rattle.rk_scenario.proofs.LoadLemmas.{padded_three}
use Rattle.rk_scenario.specs.Loads.{init_line}
use Rattle.rk_scenario.proofs.generator.add_init.Goals as goal

pub returns : goal.returns
unfolding init_line
returns c =
    let few : c.args.index < 1000 = omega (arith, c.ranges.index.fits) in
    rw (c.in_ok-writeln.ensures.bytes, c.laid_out.ensures, padded_three c.args.index few) (simp append_assoc)
