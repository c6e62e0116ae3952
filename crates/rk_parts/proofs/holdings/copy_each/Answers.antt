use Rattle.std.proofs.Common.{None, get_or, arith}
use Rattle.std.proofs.lemmas.List.{drop_all}
use Rattle.rk_groups.proofs.ListedLemmas.{get_or-any}
use Rattle.rk_parts.proofs.HoldingLemmas.{listed_within}
use Rattle.rk_parts.proofs.MarkLemmas.{all_noted, noted_one, set_size}
use Rattle.rk_parts.proofs.holdings.copy_each.Goals as goal

pub overflow_sub-index : goal.overflow_sub-index
overflow_sub-index c = (listed_within c.args.changed.now c.loop-index.index-index (omega arith) c.requires.apart).0

pub set-requires : goal.set-requires
set-requires c =
    let within = listed_within c.args.changed.now c.loop-index.index-index (omega arith) c.requires.apart in
    let size = c.loop-index.invariant.size in
    omega (arith, within, size)

pub loop-index-preserved : goal.loop-index-preserved
loop-index-preserved c =
    let within = listed_within c.args.changed.now c.loop-index.index-index (omega arith) c.requires.apart in
    record {
      size = set_size c.loop-index.noted c.set.new.self _ _ 64 c.loop-index.invariant.size c.set.ensures;
      so_far = noted_one None c.args.owners.now c.args.changed.now c.loop-index.index-index (get_or c.args.changed.now c.loop-index.index-index 0) c.loop-index.noted c.set.new.self c.held_in-holding.result c.loop-index.invariant.size (omega arith) (get_or-any c.args.changed.now c.loop-index.index-index _ _ (omega arith)) within.0 within.1 c.held_in-holding.ensures c.set.ensures c.loop-index.invariant.so_far;
    }

pub returns : goal.returns
returns c = all_noted None c.args.owners.now _ c.loop-index.noted c.requires.owners c.loop-index.invariant.size (drop_all c.loop-index.index-index c.args.changed.now (omega arith)) c.loop-index.invariant.so_far
