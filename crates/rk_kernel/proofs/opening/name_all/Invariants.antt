use Rattle.std.proofs.Common.{◌≡◌, take}
use Rattle.rk_kernel.proofs.InitNamesLemmas.{begun_table}
use Rattle.rk_kernel.proofs.opening.name_all.Given as goal

abbrev pub invariant-loop-at : goal.invariant-loop-at
invariant-loop-at l = l.table ≡ begun_table (take l.at l.inits)
