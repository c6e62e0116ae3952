use Rattle.std.proofs.Common.{◌≡◌, ◌<◌, ◌≤◌, ℕ, map, length}
use Rattle.rk_mrsp.specs.Scenes.{link_of}
use Rattle.rk_parts.specs.Hosted.{link_lent}
use Rattle.rk_parts.specs.Noted.{bare, part_at}
use Rattle.rk_parts.proofs.helping.note_links.Given as goal

abbrev pub invariant-loop-index : goal.invariant-loop-index
invariant-loop-index l = record {
  kept : map bare l.clusters ≡ map bare l.fn.clusters;
  low : 1 ≤ l.index;
  high : l.index ≤ 65;
  links : (at t : ℕ) → at < length l.clusters → t < l.index → link_of (part_at l.clusters at).chains t ≡ link_lent l.fn.clusters t;
}
