use Rattle.std.proofs.Common.{◌≡◌, drop}
use Rattle.rk_parts.specs.Holdings.{holder, noted_holdings}
use Rattle.rk_parts.proofs.holdings.noted_holder.Given as goal

abbrev pub invariant-loop-part : goal.invariant-loop-part
invariant-loop-part l = holder (noted_holdings (drop l.part-index l.clusters)) l.index ≡ holder (noted_holdings l.clusters) l.index
