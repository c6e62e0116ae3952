use Rattle.std.proofs.Common.{append_assoc}
use Rattle.rk_scenario.specs.Loads.{obtain_line}
use Rattle.rk_scenario.proofs.generator.add_obtain.Goals as goal

pub returns : goal.returns
unfolding obtain_line
returns c = rw c.in_ok-writeln.ensures.bytes (simp append_assoc)
