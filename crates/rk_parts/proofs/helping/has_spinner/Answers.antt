use Rattle.std.proofs.Common.{ap, sym, ◌∙◌, arith}
use Rattle.rk_parts.specs.Hosted.{scene_lent, spins_at}
use Rattle.rk_parts.proofs.HostedLemmas.{spinner_at, no_spinner}
use Rattle.rk_parts.proofs.helping.has_spinner.Goals as goal

pub returns-then-spins : goal.returns-then-spins
returns-then-spins c =
    let x = scene_lent c.args.clusters.now in
    spinner_at x c.loop-cpu.cpu (omega arith) (ap (spins_at x) (sym c.cpu_of.ensures ∙ c.in-Some.is) ∙ sym c.spins.ensures ∙ c.if-spins.true)

pub returns : goal.returns
returns c = no_spinner (scene_lent c.args.clusters.now) c.loop-cpu.cpu (omega arith) c.loop-cpu.invariant.high c.loop-cpu.invariant.none
