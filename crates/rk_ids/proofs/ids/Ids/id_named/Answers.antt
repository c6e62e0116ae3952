use Rattle.rk_ids.proofs.FreeIndexLemmas.{found_within}
use Rattle.rk_ids.proofs.ids.Ids.id_named.Goals as goal

pub of-requires-clause-low : goal.of-requires-clause-low
of-requires-clause-low c =
    let w = found_within c.args.name.bits _ c.self.inside.live c.self.inside.free c.in_ok-index.index _ c.as_slice.ensures c.self.invariant c.least_index.ensures c.in_ok-index.was in w.0

pub of-requires-clause-high : goal.of-requires-clause-high
of-requires-clause-high c =
    let w = found_within c.args.name.bits _ c.self.inside.live c.self.inside.free c.in_ok-index.index _ c.as_slice.ensures c.self.invariant c.least_index.ensures c.in_ok-index.was in w.1
