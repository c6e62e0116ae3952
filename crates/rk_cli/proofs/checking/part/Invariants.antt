use Rattle.std.proofs.Common.{◌≡◌, ◌≤◌, ◌-◌, take, drop}
use Rattle.rk_cli.specs.Cuts.{parted_from, parted}
use Rattle.rk_cli.proofs.checking.part.Given as goal

abbrev pub invariant-loop-at : goal.invariant-loop-at
invariant-loop-at l = record {
  low : l.start ≤ l.at;
  same : parted_from (take l.start l.bytes) (take (l.at - l.start) (drop l.start l.bytes)) (drop l.at l.bytes) ≡ parted l.bytes;
}
