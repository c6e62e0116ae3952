use Rattle.rk_ids.proofs.FreeIndexLemmas.{split_none}
use Rattle.rk_ids.proofs.ids.Ids.new.Goals as goal

pub invariant_of-result : goal.invariant_of-result
invariant_of-result c = rw (c.free_all.ensures, c.in_ok-live.ensures) split_none
