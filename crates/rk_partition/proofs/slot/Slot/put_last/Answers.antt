use Rattle.std.proofs.Common.{◌≡◌, true, arith}
use Rattle.rk_model.specs.Directives.Partitions.{is_out}
use Rattle.rk_partition.specs.PartitionSlots.{stored_by}
use Rattle.rk_partition.proofs.BufferLemmas.{room_by, kept_by}
use Rattle.rk_partition.proofs.slot.Slot.put_last.Goals as goal

pub push-requires : goal.push-requires
push-requires c =
    let is : is_out (stored_by c.self.inside.partition c.self.inside.free) c.args.address ≡ true = rw c.self.view_is c.requires in
    (omega arith, room_by c.self.inside.partition c.self.inside.free c.args.address c.self.invariant is)

pub invariant_of-self : goal.invariant_of-self
invariant_of-self c =
    let is : is_out (stored_by c.self.inside.partition c.self.inside.free) c.args.address ≡ true = rw c.self.view_is c.requires in
    kept_by c.self.inside.partition c.self.inside.free c.push.new.self c.args.address c.self.invariant is c.push.ensures
