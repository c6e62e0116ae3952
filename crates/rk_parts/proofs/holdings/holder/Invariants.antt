use Rattle.std.proofs.Common.{◌≡◌, drop}
use Rattle.rk_parts.specs.Holdings.{holder, holdings}
use Rattle.rk_parts.proofs.holdings.holder.Given as goal

abbrev pub invariant-loop-part : goal.invariant-loop-part
invariant-loop-part l = holder (holdings (drop l.part-index l.clusters)) l.index ≡ holder (holdings l.clusters) l.index
