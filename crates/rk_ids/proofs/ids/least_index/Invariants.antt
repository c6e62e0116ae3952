use Rattle.std.proofs.Common.{◌≡◌, drop}
use Rattle.rk_model.specs.Names.{least_named}
use Rattle.rk_ids.proofs.LeastNameLemmas.{least_of}
use Rattle.rk_ids.proofs.ids.least_index.Given as goal

abbrev pub invariant-loop-object : goal.invariant-loop-object
invariant-loop-object l = least_of l.least (least_named l.name.bits (drop l.object-index l.objects)) ≡ least_named l.name.bits l.objects
