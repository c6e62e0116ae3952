use Rattle.std.proofs.Common.{◌≡◌, length, ap, sym, refl, subst, ◌∙◌}
use Rattle.rk_cluster.specs.Registers.{change_at}
use Rattle.rk_cluster.specs.Clusters.{Cluster, settled}
use Rattle.rk_model.proofs.AssignmentLemmas.{length-assigned}
use Rattle.rk_cluster.proofs.AssignedLineLemmas.{assigned_by, settled_still}
use Rattle.rk_cluster.proofs.cluster.Cluster.settle.Goals as goal

pub returns-then-is_empty : goal.returns-then-is_empty
returns-then-is_empty c =
    let changes = change_at c.args.moves.now in
    let inside : Cluster = record { number = c.self.inside.number; first = c.self.inside.first; line = c.self.inside.line; cpus = c.self.inside.cpus } in
    let still = settled_still changes inside (c.if-is_empty.ensures refl) c.self.invariant.2 in
    subst (λ (cluster : Cluster). cluster ≡ settled changes cluster) c.self.view_is (sym still)

pub invariant_of-self : goal.invariant_of-self
invariant_of-self c =
    let size = ap length c.assign.ensures ∙ length-assigned c.self.inside.cpus _ in
    (c.self.invariant.0, rw size c.self.invariant.1, assigned_by c.apply.new.line c.self.inside.cpus c.assign.new.cpus c.assign.ensures)
