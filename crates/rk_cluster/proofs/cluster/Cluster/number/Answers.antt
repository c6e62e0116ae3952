use Rattle.std.proofs.Common.{◌≡◌, refl, subst}
use Rattle.rk_cluster.specs.Registers.{no_changes}
use Rattle.rk_cluster.specs.Clusters.{Cluster, settled}
use Rattle.rk_cluster.proofs.AssignedLineLemmas.{settled_still}
use Rattle.rk_cluster.proofs.cluster.Cluster.number.Goals as goal

pub returns-clause-still : goal.returns-clause-still
returns-clause-still c =
    let inside : Cluster = record { number = c.self.inside.number; first = c.self.inside.first; line = c.self.inside.line; cpus = c.self.inside.cpus } in
    subst (λ (cluster : Cluster). settled no_changes cluster ≡ cluster) c.self.view_is (settled_still no_changes inside refl c.self.invariant.2)
