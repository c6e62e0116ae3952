use Rattle.std.proofs.Common.{◌≡◌, List, Option, None, ℕ, replicate, rules}
use Rattle.std.proofs.lemmas.List.{length-replicate}
use Rattle.rk_cluster.proofs.AssignedLineLemmas.{assigned_free}
use Rattle.rk_cluster.proofs.cluster.Cluster.new.Goals as goal

pub invariant_of-result : goal.invariant_of-result
invariant_of-result c =
    let free : ◌≡◌ {A = List (Option ℕ)} c.from_vec.result (replicate c.args.cpus None) = search rules in
    (c.requires.number, rw (free, length-replicate) c.requires.cpus, rw c.in_ok-new.ensures (assigned_free c.args.cpus c.from_vec.result free))
