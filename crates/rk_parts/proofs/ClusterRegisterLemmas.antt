-- A cluster that settles by its register settles as the definitions say.
use Rattle.std.proofs.Common.{◌≡◌, ℕ, zero, suc, ◌+◌, List, [], ◌∷◌, ◌++◌, Bool, true, false, cond, not, nat_lt, ◌==◌, Option, length, arith, refl, ap, sym, ◌∙◌}
use Rattle.std.specs.List.{filter, range_with_len}
use Rattle.std.proofs.lemmas.Bool.{false≢true}
use Rattle.std.proofs.lemmas.Bool.Decides.{nat_tests}
use Rattle.rk_model.specs.declared.settling.Standing.{Standing}
use Rattle.rk_model.specs.declared.settling.Shift.{Shift}
use Rattle.rk_model.specs.declared.settling.Shift.TheVariants as asked
use Rattle.rk_model.specs.declared.state.Armed.{Armed}
use Rattle.rk_model.specs.Lists.{has}
use Rattle.rk_model.specs.State.{ClusterState}
use Rattle.rk_model.specs.Scheduling.Priorities.{nth_standing}
use Rattle.rk_model.specs.Scheduling.ReadyQueues.{most_urgent, assigned}
use Rattle.rk_model.specs.Scheduling.Settling.{belongs, shift_of, shifts, is_stay, is_to_end, is_to_front, making, shifted}
use Rattle.rk_line.specs.declared.line.Place.{Place}
use Rattle.rk_line.specs.Places.{threads, prio_in}
use Rattle.rk_cluster.specs.Registers.{front_place, end_place, kept_place, fronts_from, ends_from, kept_places, fronts, ends, moved as register_moved}
use Rattle.rk_cluster.specs.Clusters.{settled}
use Rattle.rk_cluster.specs.Clusters as clusters
use Rattle.rk_parts.specs.ClusterRegisters.{change_by, register}
use Rattle.rk_parts.specs.Noted.{key_of, IsKeyed}
use Rattle.rk_parts.specs.Settled.{settled_cluster}
use Rattle.rk_parts.proofs.KeyedLineLemmas.{keyed, threads-keyed, prio_in-keyed}
use Rattle.rk_model.proofs.AgreeingKeysLemmas.{most_urgent_agree}
use Rattle.rk_model.proofs.BooleanLemmas.{equal_test, or_front, or_back}

-- a thread with its priority, where it goes
abbrev one : Bool → ℕ → ℕ → List Place
one b t p = cond b ((let place : Place = record { thread = t; prio = p } in place) ∷ []) []

front_of : (stood : Bool) (shift : Shift) (t p : ℕ) → front_place t (change_by stood shift p) ≡ one (is_to_front shift) t p
front_of stood asked.Stay t p = refl
front_of true asked.Leave t p = refl
front_of false asked.Leave t p = refl
front_of stood asked.ToEnd t p = refl
front_of stood asked.ToFront t p = refl

end_of : (stood : Bool) (shift : Shift) (t p : ℕ) → end_place t (change_by stood shift p) ≡ one (is_to_end shift) t p
end_of stood asked.Stay t p = refl
end_of true asked.Leave t p = refl
end_of false asked.Leave t p = refl
end_of stood asked.ToEnd t p = refl
end_of stood asked.ToFront t p = refl

kept_of : (place : Place) (stood : Bool) (shift : Shift) (p : ℕ) → stood ≡ true → (shift ≡ asked.Stay → place.prio ≡ p) → kept_place place (change_by stood shift p) ≡ one (is_stay shift) place.thread p
kept_of place true asked.Stay p s same = ap (λ q. (let placed : Place = record { thread = place.thread; prio = q } in placed) ∷ []) (same refl)
kept_of place true asked.Leave p s same = refl
kept_of place true asked.ToEnd p s same = refl
kept_of place true asked.ToFront p s same = refl
kept_of place false shift p s same = absurd (false≢true s)

-- a thread that stays has its priority of before
stay_prio : (c : ℕ) (before now : Standing) (last : Bool) → shift_of c before now last ≡ asked.Stay → before.prio ≡ now.prio
unfolding shift_of
stay_prio c before now last = by (belongs c now) (belongs c before) (nat_lt now.prio before.prio) refl last (nat_lt before.prio now.prio) refl where
  by : (stands stood less : Bool) → nat_lt now.prio before.prio ≡ less → (goes_last more : Bool) → nat_lt before.prio now.prio ≡ more →
      cond (not stands) asked.Leave (cond (not stood) asked.ToEnd (cond less asked.ToEnd (cond goes_last asked.ToEnd (cond more asked.ToFront asked.Stay)))) ≡ asked.Stay → before.prio ≡ now.prio
  by true true false e false false f h = grind (arith, nat_tests, e, f)
  by true true false e false true f h = let no : ⊥ = cc in absurd no
  by true true false e true more f h = let no : ⊥ = cc in absurd no
  by true true true e goes_last more f h = let no : ⊥ = cc in absurd no
  by true false less e goes_last more f h = let no : ⊥ = cc in absurd no
  by false stood less e goes_last more f h = let no : ⊥ = cc in absurd no

stays_prio : (before now : List Standing) (last : List ℕ) (c t : ℕ) → shifts before now last c t ≡ asked.Stay → key_of before t ≡ key_of now t
unfolding shifts
stays_prio before now last c t stays = stay_prio c (nth_standing before t) (nth_standing now t) (has last t) stays

-- one thread before others that pass a test
keyed_one : (key : ℕ → ℕ) (b : Bool) (t : ℕ) (ts : List ℕ) → one b t (key t) ++ keyed key ts ≡ keyed key (cond b (t ∷ ts) ts)
keyed_one key true t ts = refl
keyed_one key false t ts = refl

fronts_keyed : (before now : List Standing) (last : List ℕ) (c a n : ℕ) →
    fronts_from (register before now last c) a n ≡ keyed (key_of now) (filter (λ t. is_to_front (shifts before now last c t)) (range_with_len a n))
fronts_keyed before now last c a zero = refl
fronts_keyed before now last c a (suc n) =
    let here = front_of (belongs c (nth_standing before a)) (shifts before now last c a) a (nth_standing now a).prio in
    let more = fronts_keyed before now last c (a + 1) n in
    ap (λ (xs : List Place). xs ++ fronts_from (register before now last c) (a + 1) n) here
    ∙ ap (λ (xs : List Place). one (is_to_front (shifts before now last c a)) a (key_of now a) ++ xs) more
    ∙ keyed_one (key_of now) (is_to_front (shifts before now last c a)) a _

ends_keyed : (before now : List Standing) (last : List ℕ) (c a n : ℕ) →
    ends_from (register before now last c) a n ≡ keyed (key_of now) (filter (λ t. is_to_end (shifts before now last c t)) (range_with_len a n))
ends_keyed before now last c a zero = refl
ends_keyed before now last c a (suc n) =
    let here = end_of (belongs c (nth_standing before a)) (shifts before now last c a) a (nth_standing now a).prio in
    let more = ends_keyed before now last c (a + 1) n in
    ap (λ (xs : List Place). xs ++ ends_from (register before now last c) (a + 1) n) here
    ∙ ap (λ (xs : List Place). one (is_to_end (shifts before now last c a)) a (key_of now a) ++ xs) more
    ∙ keyed_one (key_of now) (is_to_end (shifts before now last c a)) a _

-- each thread of a line belonged there
abbrev AllStood : List Standing → ℕ → List Place → Type 0
AllStood before c line = (t : ℕ) → has (threads line) t ≡ true → belongs c (nth_standing before t) ≡ true

kept_keyed : (before now : List Standing) (last : List ℕ) (c : ℕ) (line : List Place) → AllStood before c line → IsKeyed (key_of before) line →
    kept_places (register before now last c) line ≡ keyed (key_of now) (filter (λ t. is_stay (shifts before now last c t)) (threads line))
kept_keyed before now last c [] stood keys = refl
kept_keyed before now last c (place ∷ line) stood keys =
    let t = place.thread in
    let is = stood t (or_front (has (threads line) t) (equal_test t t refl)) in
    let here = kept_of place (belongs c (nth_standing before t)) (shifts before now last c t) (nth_standing now t).prio is (λ stays. keys.0 ∙ stays_prio before now last c t stays) in
    let more = kept_keyed before now last c line (λ u h. stood u (or_back (t == u) h)) keys.1 in
    ap (λ (xs : List Place). xs ++ kept_places (register before now last c) line) here
    ∙ ap (λ (xs : List Place). one (is_stay (shifts before now last c t)) t (key_of now t) ++ xs) more
    ∙ keyed_one (key_of now) (is_stay (shifts before now last c t)) t _

keyed-append : (key : ℕ → ℕ) (xs ys : List ℕ) → keyed key (xs ++ ys) ≡ keyed key xs ++ keyed key ys
keyed-append key [] ys = refl
keyed-append key (x ∷ xs) ys = ap (λ (zs : List Place). (let place : Place = record { thread = x; prio = key x } in place) ∷ zs) (keyed-append key xs ys)

-- the line after the changes of the register is the line after the shifts, with the priorities of now
moved_keyed : (before now : List Standing) (last : List ℕ) (c : ℕ) (line : List Place) → AllStood before c line → IsKeyed (key_of before) line →
    register_moved (register before now last c) line ≡ keyed (key_of now) (shifted (shifts before now last c) 64 (threads line))
unfolding fronts ends
moved_keyed before now last c line stood keys =
    let key = key_of now in
    let mv = shifts before now last c in
    let front = making is_to_front mv 64 in
    let stay = filter (λ t. is_stay (mv t)) (threads line) in
    let behind = making is_to_end mv 64 in
    let f : fronts_from (register before now last c) 1 64 ≡ keyed key front = fronts_keyed before now last c 1 64 in
    let e : ends_from (register before now last c) 1 64 ≡ keyed key behind = ends_keyed before now last c 1 64 in
    let s = kept_keyed before now last c line stood keys in
    ap (λ (xs : List Place). (xs ++ kept_places (register before now last c) line) ++ ends_from (register before now last c) 1 64) f
    ∙ ap (λ (xs : List Place). (keyed key front ++ xs) ++ ends_from (register before now last c) 1 64) s
    ∙ ap (λ (xs : List Place). (keyed key front ++ keyed key stay) ++ xs) e
    ∙ sym (keyed-append key (front ++ stay) behind ∙ ap (λ (xs : List Place). xs ++ keyed key behind) (keyed-append key front stay))

-- A cluster with exactly the threads in its line that belonged there, settled by the register, is settled.
pub settled_by_register : (before now : List Standing) (last : List ℕ) (c : ℕ) (cluster next : clusters.Cluster) (timers : List Armed) → ((t : ℕ) → has (threads cluster.line) t ≡ belongs c (nth_standing before t)) → IsKeyed (key_of before) cluster.line → next ≡ settled (register before now last c) cluster →
    (let x : ClusterState = record { line = threads next.line; cpus = next.cpus; timers = timers } in x) ≡ settled_cluster (shifts before now last c) (key_of now) 64 (record { line = threads cluster.line; cpus = cluster.cpus; timers = timers })
settled_by_register before now last c cluster next timers held keys is =
    let key = key_of now in
    let line = shifted (shifts before now last c) 64 (threads cluster.line) in
    let made = moved_keyed before now last c cluster.line (λ t h. sym (held t) ∙ h) keys in
    let m : next.line ≡ keyed key line = ap (λ (x : clusters.Cluster). x.line) is ∙ made in
    let n = length cluster.cpus in
    let runs : most_urgent (prio_in (keyed key line)) n (threads (keyed key line)) ≡ most_urgent key n line =
    ap (most_urgent (prio_in (keyed key line)) n) (threads-keyed key line) ∙ most_urgent_agree (prio_in (keyed key line)) key n line (λ t h. prio_in-keyed key line t h) in
    let cpus : next.cpus ≡ assigned cluster.cpus (most_urgent key n line) =
    ap (λ (x : clusters.Cluster). x.cpus) is
    ∙ ap (λ (xs : List Place). assigned cluster.cpus (most_urgent (prio_in xs) n (threads xs))) made
    ∙ ap (assigned cluster.cpus) runs in
    ap (λ (xs : List Place). (let x : ClusterState = record { line = threads xs; cpus = next.cpus; timers = timers } in x)) m
    ∙ ap (λ (xs : List ℕ). (let x : ClusterState = record { line = xs; cpus = next.cpus; timers = timers } in x)) (threads-keyed key line)
    ∙ ap (λ (xs : List (Option ℕ)). (let x : ClusterState = record { line = line; cpus = xs; timers = timers } in x)) cpus

is_keyed : (key : ℕ → ℕ) (ts : List ℕ) → IsKeyed key (keyed key ts)
is_keyed key [] = tt
is_keyed key (t ∷ ts) = (refl, is_keyed key ts)

-- and its line has the priorities of now
pub keyed_by_register : (before now : List Standing) (last : List ℕ) (c : ℕ) (cluster : clusters.Cluster) → ((t : ℕ) → has (threads cluster.line) t ≡ belongs c (nth_standing before t)) → IsKeyed (key_of before) cluster.line →
    IsKeyed (key_of now) (settled (register before now last c) cluster).line
keyed_by_register before now last c cluster held keys =
    rw (moved_keyed before now last c cluster.line (λ t h. sym (held t) ∙ h) keys) (is_keyed (key_of now) (shifted (shifts before now last c) 64 (threads cluster.line)))
