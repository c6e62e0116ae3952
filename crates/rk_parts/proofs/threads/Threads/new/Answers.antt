use Rattle.std.proofs.Common.{rules}
use Rattle.rk_parts.proofs.MarkLemmas.{opened}
use Rattle.rk_parts.proofs.threads.Threads.new.Goals as goal

pub invariant_of-result : goal.invariant_of-result
invariant_of-result c = opened _ _ (search rules) (search rules) (search rules) (search rules) (search rules)
