-- Parts each of which is changed alike.
use Rattle.std.proofs.Common.{◌≡◌, ℕ, List, [], ◌∷◌, ◌==◌, Some, length, map, refl, ap, ◌∙◌}
use Rattle.std.specs.Bool.{if◌then◌else◌}
use Rattle.rk_model.specs.Lists.{nth}
use Rattle.rk_model.specs.State.{no_thread}
use Rattle.rk_model.specs.Directives.Objects.{has_begun}
use Rattle.rk_parts.specs.declared.parts.ClusterPart.{ClusterPart}
use Rattle.rk_parts.specs.Joined.{cluster_of, placed_in, lives_in, held, numbered, threads_of, clusters_of, clusters_by}
use Rattle.rk_groups.specs.Groups.{one_more}
use Rattle.rk_parts.specs.Lent.{found_in}
use Rattle.rk_parts.specs.Threads.{Threads}
use Rattle.rk_groups.proofs.ListedLemmas.{same_listed}

-- what each has as before, the parts have as before
pub mapped_kept : {X : Type 0} (f : ClusterPart → X) (change : ClusterPart → ClusterPart) → ((p : ClusterPart) → f (change p) ≡ f p) → (parts : List ClusterPart) → map f (map change parts) ≡ map f parts
mapped_kept f change same [] = refl
mapped_kept f change same (p ∷ ps) = rw (same p) (ap (λ xs. f p ∷ xs) (mapped_kept f change same ps))

-- A change of a part that leaves its threads, its cluster and its timers alone.
pub record LeavesThreads (change : ClusterPart → ClusterPart) : Type 0 where
  pub threads : (p : ClusterPart) → (change p).threads ≡ p.threads
  pub lined : (p : ClusterPart) → (change p).lined ≡ p.lined
  pub timers : (p : ClusterPart) → (change p).timers ≡ p.timers

held_mapped : (change : ClusterPart → ClusterPart) → LeavesThreads change → (parts : List ClusterPart) (t : ℕ) → held (map change parts) t ≡ held parts t
held_mapped change leaves [] t = refl
held_mapped change leaves (p ∷ ps) t =
    ap (λ (ts : Threads). if has_begun (nth no_thread ts.places t).life then nth no_thread ts.places t else held (map change ps) t) (leaves.threads p)
    ∙ ap (λ x. if lives_in p t then placed_in p t else x) (held_mapped change leaves ps t)

numbered_mapped : (change : ClusterPart → ClusterPart) → LeavesThreads change → (counts : List ℕ) (parts : List ClusterPart) (c : ℕ) → numbered counts (map change parts) c ≡ numbered counts parts c
numbered_mapped change leaves counts [] c = refl
numbered_mapped change leaves counts (p ∷ ps) c = rw (leaves.lined p, leaves.timers p) (ap (λ rest. if p.lined.number == c then cluster_of p else rest) (numbered_mapped change leaves counts ps c))

-- the parts have the same threads and clusters
pub threads_mapped : (change : ClusterPart → ClusterPart) → LeavesThreads change → (parts : List ClusterPart) → threads_of (map change parts) ≡ threads_of parts
unfolding threads_of
threads_mapped change leaves parts = same_listed (held (map change parts)) (held parts) 1 64 (held_mapped change leaves parts)

pub clusters_mapped : (change : ClusterPart → ClusterPart) → LeavesThreads change → (counts : List ℕ) (parts : List ClusterPart) → clusters_of counts (map change parts) ≡ clusters_of counts parts
unfolding clusters_by
clusters_mapped change leaves counts parts = same_listed (numbered counts (map change parts)) (numbered counts parts) 0 (length counts) (numbered_mapped change leaves counts parts)

-- and their threads are found where they were
pub found_mapped : (change : ClusterPart → ClusterPart) → LeavesThreads change → (parts : List ClusterPart) (t : ℕ) → found_in (map change parts) t ≡ found_in parts t
found_mapped change leaves [] t = refl
found_mapped change leaves (p ∷ ps) t = rw (leaves.threads p) (ap (λ o. if lives_in p t then Some 0 else one_more o) (found_mapped change leaves ps t))
