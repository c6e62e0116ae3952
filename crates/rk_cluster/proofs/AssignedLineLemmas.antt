-- A cluster whose processors are assigned by its ready queue.
use Rattle.std.proofs.Common.{◌≡◌, ℕ, List, [], Option, None, length, replicate, ap, sym, ◌∙◌, map}
use Rattle.rk_model.specs.Scheduling.ReadyQueues.{kept, assigned}
use Rattle.rk_model.proofs.AssignmentLemmas.{length-assigned, assigned_again, filled_none, none_urgent, kept_free}
use Rattle.rk_line.specs.declared.line.Place.{Place}
use Rattle.rk_line.specs.Places.{prio_in}
use Rattle.rk_cluster.specs.declared.moves.Change.{Change}
use Rattle.rk_cluster.specs.Registers.{no_changes}
use Rattle.rk_cluster.specs.Clusters.{Cluster, runners_of, AreAssigned, lined_up, settled}
use Rattle.rk_cluster.proofs.RegisterPassLemmas.{moved_none}

-- the processors that were assigned by a ready queue
pub assigned_by : (line : List Place) (old cpus : List (Option ℕ)) → cpus ≡ assigned old (runners_of (length old) line) → AreAssigned line cpus
assigned_by line old cpus is =
    let running = runners_of (length old) line in
    let size : length cpus ≡ length old = ap length is ∙ length-assigned old running in
    ap (λ n. assigned cpus (runners_of n line)) size ∙ ap (λ (xs : List (Option ℕ)). assigned xs running) is ∙ assigned_again old running ∙ sym is

-- without threads all processors stay free
pub assigned_free : (n : ℕ) (cpus : List (Option ℕ)) → cpus ≡ replicate n None → AreAssigned [] cpus
assigned_free n cpus is =
    let free : List (Option ℕ) = replicate n None in
    let none : runners_of (length free) [] ≡ [] = none_urgent (prio_in []) (length free) in
    let same : assigned free (runners_of (length free) []) ≡ free = ap (assigned free) none ∙ filled_none (map (kept []) free) ∙ kept_free n in
    rw is same

-- A cluster whose processors are assigned by its ready queue stays as it is where nothing changes.
pub settled_still : (changes : ℕ → Option Change) (cluster : Cluster) → changes ≡ no_changes → AreAssigned cluster.line cluster.cpus → settled changes cluster ≡ cluster
settled_still changes cluster none assigned =
    ap (lined_up cluster) (moved_none changes cluster.line none) ∙ ap (λ (cpus : List (Option ℕ)). (let x : Cluster = record cluster { cpus = cpus } in x)) assigned
