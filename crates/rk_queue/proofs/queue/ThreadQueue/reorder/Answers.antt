use Rattle.std.proofs.Common.{arith, refl}
use Rattle.rk_queue.proofs.QueueLemmas.{queue_few, queue_reordered, there, reset, cluster_there}
use Rattle.rk_queue.proofs.queue.ThreadQueue.reorder.Goals as goal

pub offset_bounds-as_slice-at : goal.offset_bounds-as_slice-at
offset_bounds-as_slice-at c =
    let within = there c.args.thread _ c.self.inside.arrivals _ c.as_slice.ensures c.position_of-at.ensures (rw (← c.self.view_is) at c.requires) in
    omega (arith, within, queue_few c.self.inside.arrivals c.self.inside.turns c.self.invariant)

pub bounds-as_slice-at : goal.bounds-as_slice-at
bounds-as_slice-at c = rw c.as_slice-2.ensures (there c.args.thread _ c.self.inside.arrivals _ c.as_slice.ensures c.position_of-at.ensures (rw (← c.self.view_is) at c.requires))

pub bounds-as_slice-at-2 : goal.bounds-as_slice-at-2
bounds-as_slice-at-2 c = rw c.as_slice-2.ensures (there c.args.thread _ c.self.inside.arrivals _ c.as_slice.ensures c.position_of-at.ensures (rw (← c.self.view_is) at c.requires))

pub set-requires : goal.set-requires
set-requires c = (omega arith, there c.args.thread _ c.self.inside.arrivals _ c.as_slice.ensures c.position_of-at.ensures (rw (← c.self.view_is) at c.requires))

pub invariant_of-self : goal.invariant_of-self
invariant_of-self c =
    let cluster = cluster_there c.args.thread _ _ c.self.inside.arrivals _ c.index-as_slice-at.result c.as_slice.ensures c.as_slice-2.ensures c.position_of-at.ensures (rw (← c.self.view_is) at c.requires) in
    let is = reset c.args.thread _ c.args.prio _ c.self.inside.arrivals _ _ c.as_slice.ensures c.position_of-at.ensures (c.self.invariant.once c.args.thread) cluster c.set.ensures in
    rw is (queue_reordered c.self.inside.arrivals c.self.inside.turns c.args.thread c.args.prio c.self.invariant)

pub returns : goal.returns
returns c =
    let cluster = cluster_there c.args.thread _ _ c.self.inside.arrivals _ c.index-as_slice-at.result c.as_slice.ensures c.as_slice-2.ensures c.position_of-at.ensures (rw (← c.self.view_is) at c.requires) in
    let is = reset c.args.thread _ c.args.prio _ c.self.inside.arrivals _ _ c.as_slice.ensures c.position_of-at.ensures (c.self.invariant.once c.args.thread) cluster c.set.ensures in
    rw (is, ← c.self.view_is) refl
