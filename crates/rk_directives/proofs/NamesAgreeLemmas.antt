-- Names and objects agree, while objects are made and removed.
use Rattle.std.proofs.Common.{◌≡◌, ◌≢◌, ℕ, ◌+◌, ◌≤◌, List, [], ◌∷◌, ◌++◌, Bool, true, false, cond, ◌==◌, ◌&&◌, not, nat_le, length, arith, refl, sym, ap, ◌∙◌}
use Rattle.std.specs.List.{filter}
use Rattle.std.proofs.lemmas.List.{map_push}
use Rattle.std.proofs.lemmas.Bool.{false≢true}
use Rattle.std.proofs.lemmas.Bool.Decides.{nat_tests}
use Rattle.rk_model.specs.declared.ids.Class.{Class}
use Rattle.rk_model.specs.declared.ids.Class.TheVariants.{Task, Semaphore, Partition, Period, Barrier}
use Rattle.rk_model.specs.declared.ids.Named.{Named}
use Rattle.rk_model.specs.declared.state.Thread.{Thread}
use Rattle.rk_model.specs.Lists.{nth, with_nth, times}
use Rattle.rk_model.specs.Names.{Names, Table, names_of, with_names, indices, lives, taken, given_back}
use Rattle.rk_model.specs.State.{SemaphoreState, BarrierState, PartitionState, PeriodState, Objects, no_thread, no_semaphore, no_barrier, no_partition, no_period}
use Rattle.rk_model.specs.Directives.Objects.{has_begun, begun_in}
use Rattle.rk_model.proofs.BooleanLemmas.{same_number}
use Rattle.rk_model.proofs.CountLemmas.{same_either_way, times-append, has_times, has_none}
use Rattle.rk_ids.proofs.FreeIndexLemmas.{live_within, split_taken, split_given}
use Rattle.rk_parts.specs.NamesAgree.{IsNamed, AreNamed}
use Rattle.rk_directives.specs.Does.{IsFirst}
use Rattle.rk_model.proofs.IndexLemmas.{nth-with_same, nth-with_other, nth-with_kept}

-- ---- a class

lives_by : (names : Names) (index : ℕ) (b : Bool) → times index (indices names.live) ≡ cond b 1 0 → lives names index ≡ b
lives_by names index true once = has_times index (indices names.live) (omega (arith, once))
lives_by names index false none = has_none index (indices names.live) none

-- where which objects have begun is the same, names agree with them still
named_same : (names : Names) (begun begun' : ℕ → Bool) → ((u : ℕ) → begun' u ≡ begun u) → IsNamed names begun → IsNamed names begun'
named_same names begun begun' same named = record {
  split = named.split;
  live = λ u. named.live u ∙ ap (λ b. cond b 1 0) (sym (same u));
}

split_within : (i n : ℕ) (low high : Bool) → nat_le 1 i ≡ low → nat_le i 64 ≡ high → n + 1 ≤ cond (low && high) 1 0 → (1 ≤ i) × (i ≤ 64) × (n ≡ 0)
split_within i n true true a b few =
    let low : 1 ≤ i = grind (arith, nat_tests, a) in
    let high : i ≤ 64 = grind (arith, nat_tests, b) in
    (low, high, omega (arith, few))
split_within i n true false a b few = absurd (omega (arith, few))
split_within i n false high a b few = absurd (omega (arith, few))

not_live : (b : Bool) (n : ℕ) → n ≡ cond b 1 0 → n ≡ 0 → b ≡ false
not_live true n e none = absurd (omega (arith, e, none))
not_live false n e none = refl

-- an index that is free: it is one of the 64, has no name, and no object of it has begun
pub record IsFree (names : Names) (begun : ℕ → Bool) (index : ℕ) : Type 0 where
  pub low : 1 ≤ index
  pub high : index ≤ 64
  pub unnamed : times index (indices names.live) ≡ 0
  pub absent : begun index ≡ false

-- the first free index is so
named_free : (names : Names) (begun : ℕ → Bool) (index : ℕ) (free : List ℕ) → IsNamed names begun → names.free ≡ index ∷ free → IsFree names begun index
named_free names begun index free named is =
    let here : (index == index) ≡ true = grind (arith, nat_tests) in
    let more : times index names.free ≡ 1 + times index free = ap (times index) is ∙ ap (λ b. cond b 1 0 + times index free) here in
    let w = split_within index (times index (indices names.live) + times index free) (nat_le 1 index) (nat_le index 64) refl refl (omega (arith, named.split index, more)) in
    let none : times index (indices names.live) ≡ 0 = omega (arith, w.2) in
    record { low = w.0; high = w.1; unnamed = none; absent = not_live (begun index) _ (named.live index) none }

-- no object of the first free index has begun
pub first_absent : (names : Names) (begun : ℕ → Bool) (index : ℕ) → IsNamed names begun → IsFirst index names.free → begun index ≡ false
first_absent names begun index named is = by names.free refl is where
  by : (free : List ℕ) → names.free ≡ free → IsFirst index free → begun index ≡ false
  by [] e is = absurd is
  by (first ∷ more) e is = ap begun (sym is) ∙ (named_free names begun first more named e).absent

-- an object has a name where it has begun
pub lives_named : (names : Names) (begun : ℕ → Bool) (index : ℕ) → IsNamed names begun → lives names index ≡ begun index
lives_named names begun index named = lives_by names index (begun index) (named.live index)

-- an object of the first free index begins
made : (names : Names) (begun begun' : ℕ → Bool) (index : ℕ) (free : List ℕ) (name : ℕ) → IsNamed names begun → names.free ≡ index ∷ free → begun' index ≡ true → ((u : ℕ) → u ≢ index → begun' u ≡ begun u) → IsNamed (taken names index free name) begun'
made names begun begun' index free name named is now others = record { split = split_taken names.live names.free free index name named.split is; live = λ u. count u ∙ by u (index == u) refl } where
  count : (u : ℕ) → times u (indices (taken names index free name).live) ≡ times u (indices names.live) + cond (index == u) 1 0
  count u =
      let object : Named = record { index = index; name = record { bits = name } } in
      let more : indices (names.live ++ object ∷ []) ≡ indices names.live ++ index ∷ [] = map_push (λ (x : Named). x.index) names.live object in
      let e : times u (indices (names.live ++ object ∷ [])) ≡ times u (indices names.live) + times u (index ∷ []) = ap (times u) more ∙ times-append u (indices names.live) (index ∷ []) in
      omega (arith, e)

  by : (u : ℕ) (b : Bool) → (index == u) ≡ b → times u (indices names.live) + cond b 1 0 ≡ cond (begun' u) 1 0
  by u true e =
      let same : index ≡ u = grind (arith, nat_tests, e) in
      let none : times u (indices names.live) ≡ 0 = ap (λ v. times v (indices names.live)) (sym same) ∙ (named_free names begun index free named is).unnamed in
      let here : begun' u ≡ true = ap begun' (sym same) ∙ now in
      rw here (omega (arith, none))
  by u false e =
      let other : u ≢ index = λ q. false≢true (sym e ∙ grind (arith, nat_tests, q)) in
      rw (others u other) (omega (arith, named.live u))

-- the indices of all but one
indices_without : (v u : ℕ) (live : List Named) → times v (indices (filter (λ (object : Named). not (object.index == u)) live)) ≡ cond (u == v) 0 (times v (indices live))
indices_without v u [] = same_either_way (u == v) 0
indices_without v u (object ∷ live) = grind (arith, nat_tests, indices_without v u live)

-- an index whose object has begun is one of the 64, and has a name
pub record IsLive (names : Names) (index : ℕ) : Type 0 where
  pub low : 1 ≤ index
  pub high : index ≤ 64
  pub named : lives names index ≡ true

live_named : (names : Names) (begun : ℕ → Bool) (index : ℕ) → IsNamed names begun → begun index ≡ true → IsLive names index
live_named names begun index named life =
    let is = lives_named names begun index named ∙ life in
    let w = live_within names index named.split is in
    record { low = w.0; high = w.1; named = is }

-- an object of an index lives no longer
ended : (names : Names) (begun begun' : ℕ → Bool) (u : ℕ) → IsNamed names begun → begun u ≡ true → begun' u ≡ false → ((v : ℕ) → v ≢ u → begun' v ≡ begun v) → IsNamed (given_back names u) begun'
ended names begun begun' u named life gone others = record {
  split = split_given names.live names.free u named.split (live_named names begun u named life).named;
  live = λ v. indices_without v u names.live ∙ by v (u == v) refl;
} where
  by : (v : ℕ) (b : Bool) → (u == v) ≡ b → cond b 0 (times v (indices names.live)) ≡ cond (begun' v) 1 0
  by v true e = let now : begun' v ≡ false = ap begun' (sym (same_number u v e)) ∙ gone in rw now refl
  by v false e =
      let other : v ≢ u = λ q. false≢true (sym e ∙ grind (arith, nat_tests, q)) in
      rw (others v other) (named.live v)

-- ---- the objects of a class, each at its index

-- Names agree with a list of objects, of which these live; where none lives there is none.
record AreSlots {X : Type 0} (none : X) (lives : X → Bool) (names : Names) (xs : List X) : Type 0 where
  class : IsNamed names (λ u. lives (nth none xs u))
  bare : (u : ℕ) → lives (nth none xs u) ≡ false → nth none xs u ≡ none

-- other objects, of which the same live
slots_same : {X : Type 0} (none : X) (lives : X → Bool) (names : Names) (xs ys : List X) → ((u : ℕ) → lives (nth none ys u) ≡ lives (nth none xs u)) → ((u : ℕ) → lives (nth none ys u) ≡ false → nth none ys u ≡ none) → AreSlots none lives names xs → AreSlots none lives names ys
slots_same none lives names xs ys same bare slots = record { class = named_same names (λ u. lives (nth none xs u)) (λ u. lives (nth none ys u)) same slots.class; bare = bare }

-- one that lives is put back where one lives
slots_put : {X : Type 0} (none : X) (lives : X → Bool) (names : Names) (xs : List X) (i : ℕ) (x : X) → lives (nth none xs i) ≡ true → lives x ≡ true → AreSlots none lives names xs → AreSlots none lives names (with_nth xs i x)
slots_put none lives names xs i x was life slots = slots_same none lives names xs (with_nth xs i x) same bare slots where
  same : (u : ℕ) → lives (nth none (with_nth xs i x) u) ≡ lives (nth none xs u)
  same u = nth-with_kept lives none x xs i u (life ∙ sym was)

  bare : (u : ℕ) → lives (nth none (with_nth xs i x) u) ≡ false → nth none (with_nth xs i x) u ≡ none
  bare u dead =
      let before : lives (nth none xs u) ≡ false = sym (same u) ∙ dead in
      let other : u ≢ i = λ q. false≢true (sym before ∙ ap (λ v. lives (nth none xs v)) q ∙ was) in
      nth-with_other none x xs i u other ∙ slots.bare u before

-- one of the first free index lives then
slots_made : {X : Type 0} (none : X) (lives : X → Bool) (names : Names) (xs : List X) (i : ℕ) (free : List ℕ) (name : ℕ) (x : X) → length xs ≡ 64 → names.free ≡ i ∷ free → lives x ≡ true → AreSlots none lives names xs → AreSlots none lives (taken names i free name) (with_nth xs i x)
slots_made none lives names xs i free name x size is life slots = record {
  class = made names (λ u. lives (nth none xs u)) (λ u. lives (nth none (with_nth xs i x) u)) i free name slots.class is now (λ u other. ap lives (others u other));
  bare = bare;
} where
  others : (u : ℕ) → u ≢ i → nth none (with_nth xs i x) u ≡ nth none xs u
  others u other = nth-with_other none x xs i u other

  now : lives (nth none (with_nth xs i x) i) ≡ true
  now = let f = named_free names (λ u. lives (nth none xs u)) i free slots.class is in ap lives (nth-with_same none x xs i f.low (omega (arith, f.high, size))) ∙ life

  bare : (u : ℕ) → lives (nth none (with_nth xs i x) u) ≡ false → nth none (with_nth xs i x) u ≡ none
  bare u dead =
      let other : u ≢ i = λ q. false≢true (sym dead ∙ ap (λ v. lives (nth none (with_nth xs i x) v)) q ∙ now) in
      others u other ∙ slots.bare u (sym (ap lives (others u other)) ∙ dead)

-- one that lived doesn't any more, its index is free, and nothing is left of it
slots_ended : {X : Type 0} (none : X) (lives : X → Bool) (names : Names) (xs : List X) (i : ℕ) → length xs ≡ 64 → lives none ≡ false → lives (nth none xs i) ≡ true → AreSlots none lives names xs → AreSlots none lives (given_back names i) (with_nth xs i none)
slots_ended none lives names xs i size gone life slots = record {
  class = ended names (λ u. lives (nth none xs u)) (λ u. lives (nth none (with_nth xs i none) u)) i slots.class life (ap lives here ∙ gone) (λ u other. ap lives (others u other));
  bare = λ u. by u (i == u) refl;
} where
  here : nth none (with_nth xs i none) i ≡ none
  here = let n = live_named names (λ u. lives (nth none xs u)) i slots.class life in nth-with_same none none xs i n.low (omega (arith, n.high, size))

  others : (u : ℕ) → u ≢ i → nth none (with_nth xs i none) u ≡ nth none xs u
  others u other = nth-with_other none none xs i u other

  by : (u : ℕ) (b : Bool) → (i == u) ≡ b → lives (nth none (with_nth xs i none) u) ≡ false → nth none (with_nth xs i none) u ≡ none
  by u true e dead = ap (nth none (with_nth xs i none)) (sym (same_number i u e)) ∙ here
  by u false e dead =
      let other : u ≢ i = λ q. false≢true (sym e ∙ grind (arith, nat_tests, q)) in
      others u other ∙ slots.bare u (sym (ap lives (others u other)) ∙ dead)

-- ---- all classes

-- an object lives where it has begun
pub object_lives : (table : Table) (objects : Objects) (class : Class) (index : ℕ) → AreNamed table objects → lives (names_of class table) index ≡ begun_in objects class index
object_lives table objects class index named = lives_named (names_of class table) (begun_in objects class) index (named.class class)

-- the first free index of a class is one of the 64, and no object of it lives
pub first_free : (table : Table) (objects : Objects) (class : Class) (index : ℕ) (free : List ℕ) → AreNamed table objects → (names_of class table).free ≡ index ∷ free → IsFree (names_of class table) (begun_in objects class) index
first_free table objects class index free named is = named_free (names_of class table) (begun_in objects class) index free (named.class class) is

-- ---- tasks

abbrev has_life : Thread → Bool
has_life thread = has_begun thread.life

tasks_of : (table : Table) (objects : Objects) → AreNamed table objects → AreSlots no_thread has_life table.tasks objects.threads
tasks_of table objects named = record { class = named.class Task; bare = named.blank }

with_tasks : (table : Table) (objects : Objects) (names : Names) (threads : List Thread) → AreNamed table objects → AreSlots no_thread has_life names threads → AreNamed (with_names Task names table) (record objects { threads = threads })
with_tasks table objects names threads named slots = record { class = class; blank = slots.bare; free = named.free; bare = named.bare; unused = named.unused; idle = named.idle } where
  class : (c : Class) → IsNamed (names_of c (with_names Task names table)) (begun_in (record objects { threads = threads }) c)
  class Task = slots.class
  class Semaphore = named.class Semaphore
  class Partition = named.class Partition
  class Period = named.class Period
  class Barrier = named.class Barrier

-- other threads, of which the same have begun
pub named_alike : (table : Table) (objects : Objects) (threads : List Thread) → ((u : ℕ) → has_begun (nth no_thread threads u).life ≡ has_begun (nth no_thread objects.threads u).life) → ((u : ℕ) → has_begun (nth no_thread threads u).life ≡ false → nth no_thread threads u ≡ no_thread) → AreNamed table objects → AreNamed table (record objects { threads = threads })
named_alike table objects threads same blank named = with_tasks table objects table.tasks threads named (slots_same no_thread has_life table.tasks objects.threads threads same blank (tasks_of table objects named))

-- a thread that lives is put back where one lives
pub named_put : (table : Table) (objects : Objects) (t : ℕ) (thread : Thread) → has_begun (nth no_thread objects.threads t).life ≡ true → has_begun thread.life ≡ true → AreNamed table objects → AreNamed table (record objects { threads = with_nth objects.threads t thread })
named_put table objects t thread was life named = with_tasks table objects table.tasks (with_nth objects.threads t thread) named (slots_put no_thread has_life table.tasks objects.threads t thread was life (tasks_of table objects named))

-- a task of the first free index lives then
pub named_made : (table : Table) (objects : Objects) (index : ℕ) (free : List ℕ) (name : ℕ) (thread : Thread) → AreNamed table objects → length objects.threads ≡ 64 → table.tasks.free ≡ index ∷ free → has_begun thread.life ≡ true → AreNamed (with_names Task (taken table.tasks index free name) table) (record objects { threads = with_nth objects.threads index thread })
named_made table objects index free name thread named size is life =
    with_tasks table objects (taken table.tasks index free name) (with_nth objects.threads index thread) named (slots_made no_thread has_life table.tasks objects.threads index free name thread size is life (tasks_of table objects named))

-- a task that lived doesn't any more, its index is free, and nothing is left of it
pub named_removed : (table : Table) (objects : Objects) (u : ℕ) → AreNamed table objects → length objects.threads ≡ 64 → has_begun (nth no_thread objects.threads u).life ≡ true → AreNamed (with_names Task (given_back table.tasks u) table) (record objects { threads = with_nth objects.threads u no_thread })
named_removed table objects u named size life =
    with_tasks table objects (given_back table.tasks u) (with_nth objects.threads u no_thread) named (slots_ended no_thread has_life table.tasks objects.threads u size refl life (tasks_of table objects named))

-- ---- barriers

abbrev is_barrier : BarrierState → Bool
is_barrier barrier = barrier.live

barriers_named : (table : Table) (objects : Objects) → AreNamed table objects → AreSlots no_barrier is_barrier table.barriers objects.barriers
barriers_named table objects named = record { class = named.class Barrier; bare = named.bare }

with_barriers : (table : Table) (objects : Objects) (names : Names) (barriers : List BarrierState) → AreNamed table objects → AreSlots no_barrier is_barrier names barriers → AreNamed (with_names Barrier names table) (record objects { barriers = barriers })
with_barriers table objects names barriers named slots = record { class = class; blank = named.blank; free = named.free; bare = slots.bare; unused = named.unused; idle = named.idle } where
  class : (c : Class) → IsNamed (names_of c (with_names Barrier names table)) (begun_in (record objects { barriers = barriers }) c)
  class Task = named.class Task
  class Semaphore = named.class Semaphore
  class Partition = named.class Partition
  class Period = named.class Period
  class Barrier = slots.class

-- a barrier that lives is put back where one lives
pub named_kept : (table : Table) (objects : Objects) (i : ℕ) (barrier : BarrierState) → (nth no_barrier objects.barriers i).live ≡ true → barrier.live ≡ true → AreNamed table objects → AreNamed table (record objects { barriers = with_nth objects.barriers i barrier })
named_kept table objects i barrier was life named =
    with_barriers table objects table.barriers (with_nth objects.barriers i barrier) named (slots_put no_barrier is_barrier table.barriers objects.barriers i barrier was life (barriers_named table objects named))

-- a barrier of the first free index lives then
pub named_placed : (table : Table) (objects : Objects) (index : ℕ) (free : List ℕ) (name : ℕ) (barrier : BarrierState) → AreNamed table objects → length objects.barriers ≡ 64 → table.barriers.free ≡ index ∷ free → barrier.live ≡ true → AreNamed (with_names Barrier (taken table.barriers index free name) table) (record objects { barriers = with_nth objects.barriers index barrier })
named_placed table objects index free name barrier named size is life =
    with_barriers table objects (taken table.barriers index free name) (with_nth objects.barriers index barrier) named (slots_made no_barrier is_barrier table.barriers objects.barriers index free name barrier size is life (barriers_named table objects named))

-- a barrier that lived doesn't any more, its index is free, and nothing is left of it
pub named_vacated : (table : Table) (objects : Objects) (i : ℕ) → AreNamed table objects → length objects.barriers ≡ 64 → (nth no_barrier objects.barriers i).live ≡ true → AreNamed (with_names Barrier (given_back table.barriers i) table) (record objects { barriers = with_nth objects.barriers i no_barrier })
named_vacated table objects i named size life =
    with_barriers table objects (given_back table.barriers i) (with_nth objects.barriers i no_barrier) named (slots_ended no_barrier is_barrier table.barriers objects.barriers i size refl life (barriers_named table objects named))

-- ---- semaphores

abbrev is_semaphore : SemaphoreState → Bool
is_semaphore sem = sem.live

semaphores_named : (table : Table) (objects : Objects) → AreNamed table objects → AreSlots no_semaphore is_semaphore table.semaphores objects.semaphores
semaphores_named table objects named = record { class = named.class Semaphore; bare = named.free }

with_semaphores : (table : Table) (objects : Objects) (names : Names) (semaphores : List SemaphoreState) → AreNamed table objects → AreSlots no_semaphore is_semaphore names semaphores → AreNamed (with_names Semaphore names table) (record objects { semaphores = semaphores })
with_semaphores table objects names semaphores named slots = record { class = class; blank = named.blank; free = slots.bare; bare = named.bare; unused = named.unused; idle = named.idle } where
  class : (c : Class) → IsNamed (names_of c (with_names Semaphore names table)) (begun_in (record objects { semaphores = semaphores }) c)
  class Task = named.class Task
  class Semaphore = slots.class
  class Partition = named.class Partition
  class Period = named.class Period
  class Barrier = named.class Barrier

-- a semaphore that lives is put back where one lives
pub named_obtained : (table : Table) (objects : Objects) (i : ℕ) (sem : SemaphoreState) → (nth no_semaphore objects.semaphores i).live ≡ true → sem.live ≡ true → AreNamed table objects → AreNamed table (record objects { semaphores = with_nth objects.semaphores i sem })
named_obtained table objects i sem was life named =
    with_semaphores table objects table.semaphores (with_nth objects.semaphores i sem) named (slots_put no_semaphore is_semaphore table.semaphores objects.semaphores i sem was life (semaphores_named table objects named))

-- a semaphore of the first free index lives then
pub named_founded : (table : Table) (objects : Objects) (index : ℕ) (free : List ℕ) (name : ℕ) (sem : SemaphoreState) → AreNamed table objects → length objects.semaphores ≡ 64 → table.semaphores.free ≡ index ∷ free → sem.live ≡ true → AreNamed (with_names Semaphore (taken table.semaphores index free name) table) (record objects { semaphores = with_nth objects.semaphores index sem })
named_founded table objects index free name sem named size is life =
    with_semaphores table objects (taken table.semaphores index free name) (with_nth objects.semaphores index sem) named (slots_made no_semaphore is_semaphore table.semaphores objects.semaphores index free name sem size is life (semaphores_named table objects named))

-- a semaphore that lived doesn't any more, its index is free, and nothing is left of it
pub named_abandoned : (table : Table) (objects : Objects) (i : ℕ) → AreNamed table objects → length objects.semaphores ≡ 64 → (nth no_semaphore objects.semaphores i).live ≡ true → AreNamed (with_names Semaphore (given_back table.semaphores i) table) (record objects { semaphores = with_nth objects.semaphores i no_semaphore })
named_abandoned table objects i named size life =
    with_semaphores table objects (given_back table.semaphores i) (with_nth objects.semaphores i no_semaphore) named (slots_ended no_semaphore is_semaphore table.semaphores objects.semaphores i size refl life (semaphores_named table objects named))

-- ---- partitions

abbrev is_partition : PartitionState → Bool
is_partition partition = partition.live

partitions_named : (table : Table) (objects : Objects) → AreNamed table objects → AreSlots no_partition is_partition table.partitions objects.partitions
partitions_named table objects named = record { class = named.class Partition; bare = named.unused }

with_partitions : (table : Table) (objects : Objects) (names : Names) (partitions : List PartitionState) → AreNamed table objects → AreSlots no_partition is_partition names partitions → AreNamed (with_names Partition names table) (record objects { partitions = partitions })
with_partitions table objects names partitions named slots = record { class = class; blank = named.blank; free = named.free; bare = named.bare; unused = slots.bare; idle = named.idle } where
  class : (c : Class) → IsNamed (names_of c (with_names Partition names table)) (begun_in (record objects { partitions = partitions }) c)
  class Task = named.class Task
  class Semaphore = named.class Semaphore
  class Partition = slots.class
  class Period = named.class Period
  class Barrier = named.class Barrier

-- a partition that lives is put back where one lives
pub named_stored : (table : Table) (objects : Objects) (i : ℕ) (partition : PartitionState) → (nth no_partition objects.partitions i).live ≡ true → partition.live ≡ true → AreNamed table objects → AreNamed table (record objects { partitions = with_nth objects.partitions i partition })
named_stored table objects i partition was life named =
    with_partitions table objects table.partitions (with_nth objects.partitions i partition) named (slots_put no_partition is_partition table.partitions objects.partitions i partition was life (partitions_named table objects named))

-- a partition of the first free index lives then
pub named_divided : (table : Table) (objects : Objects) (index : ℕ) (free : List ℕ) (name : ℕ) (partition : PartitionState) → AreNamed table objects → length objects.partitions ≡ 64 → table.partitions.free ≡ index ∷ free → partition.live ≡ true → AreNamed (with_names Partition (taken table.partitions index free name) table) (record objects { partitions = with_nth objects.partitions index partition })
named_divided table objects index free name partition named size is life =
    with_partitions table objects (taken table.partitions index free name) (with_nth objects.partitions index partition) named (slots_made no_partition is_partition table.partitions objects.partitions index free name partition size is life (partitions_named table objects named))

-- a partition that lived doesn't any more, its index is free, and nothing is left of it
pub named_emptied : (table : Table) (objects : Objects) (i : ℕ) → AreNamed table objects → length objects.partitions ≡ 64 → (nth no_partition objects.partitions i).live ≡ true → AreNamed (with_names Partition (given_back table.partitions i) table) (record objects { partitions = with_nth objects.partitions i no_partition })
named_emptied table objects i named size life =
    with_partitions table objects (given_back table.partitions i) (with_nth objects.partitions i no_partition) named (slots_ended no_partition is_partition table.partitions objects.partitions i size refl life (partitions_named table objects named))

-- ---- periods

abbrev is_period : PeriodState → Bool
is_period period = period.live

periods_named : (table : Table) (objects : Objects) → AreNamed table objects → AreSlots no_period is_period table.periods objects.periods
periods_named table objects named = record { class = named.class Period; bare = named.idle }

with_periods : (table : Table) (objects : Objects) (names : Names) (periods : List PeriodState) → AreNamed table objects → AreSlots no_period is_period names periods → AreNamed (with_names Period names table) (record objects { periods = periods })
with_periods table objects names periods named slots = record { class = class; blank = named.blank; free = named.free; bare = named.bare; unused = named.unused; idle = slots.bare } where
  class : (c : Class) → IsNamed (names_of c (with_names Period names table)) (begun_in (record objects { periods = periods }) c)
  class Task = named.class Task
  class Semaphore = named.class Semaphore
  class Partition = named.class Partition
  class Period = slots.class
  class Barrier = named.class Barrier

-- a period that lives is put back where one lives
pub named_begun_again : (table : Table) (objects : Objects) (i : ℕ) (period : PeriodState) → (nth no_period objects.periods i).live ≡ true → period.live ≡ true → AreNamed table objects → AreNamed table (record objects { periods = with_nth objects.periods i period })
named_begun_again table objects i period was life named =
    with_periods table objects table.periods (with_nth objects.periods i period) named (slots_put no_period is_period table.periods objects.periods i period was life (periods_named table objects named))

-- a period of the first free index lives then
pub named_timed : (table : Table) (objects : Objects) (index : ℕ) (free : List ℕ) (name : ℕ) (period : PeriodState) → AreNamed table objects → length objects.periods ≡ 64 → table.periods.free ≡ index ∷ free → period.live ≡ true → AreNamed (with_names Period (taken table.periods index free name) table) (record objects { periods = with_nth objects.periods index period })
named_timed table objects index free name period named size is life =
    with_periods table objects (taken table.periods index free name) (with_nth objects.periods index period) named (slots_made no_period is_period table.periods objects.periods index free name period size is life (periods_named table objects named))

-- a period that lived doesn't any more, its index is free, and nothing is left of it
pub named_dropped : (table : Table) (objects : Objects) (i : ℕ) → AreNamed table objects → length objects.periods ≡ 64 → (nth no_period objects.periods i).live ≡ true → AreNamed (with_names Period (given_back table.periods i) table) (record objects { periods = with_nth objects.periods i no_period })
named_dropped table objects i named size life =
    with_periods table objects (given_back table.periods i) (with_nth objects.periods i no_period) named (slots_ended no_period is_period table.periods objects.periods i size refl life (periods_named table objects named))
