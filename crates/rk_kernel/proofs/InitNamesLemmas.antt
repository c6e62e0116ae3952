-- The names of the tasks of init lines agree with their threads.
use Rattle.std.proofs.Common.{◌≡◌, ℕ, zero, suc, ◌+◌, ◌-◌, ◌<◌, ◌≤◌, List, [], ◌∷◌, ◌++◌, cond, false, ◌&&◌, nat_le, nat_lt, Option, length, map, take, get_or, length-take, length-append, replicate, arith, refl, sym, ap, ◌∙◌, subst}
use Rattle.std.specs.List.{range_with_len}
use Rattle.std.proofs.lemmas.List.{take_more}
use Rattle.std.proofs.lemmas.Bool.{false≢true}
use Rattle.std.proofs.lemmas.Bool.Decides.{nat_tests}
use Rattle.rk_model.specs.declared.ids.Named.{Named}
use Rattle.rk_model.specs.declared.scenario.Scenario.{Scenario}
use Rattle.rk_model.specs.declared.scenario.Init.{Init}
use Rattle.rk_model.specs.Lists.{nth, times}
use Rattle.rk_model.specs.declared.ids.Class.{Class}
use Rattle.rk_model.specs.declared.ids.Class.TheVariants.{Task, Semaphore, Partition, Period, Barrier}
use Rattle.rk_model.specs.Names.{Names, Table, names_of, with_names, no_objects, indices, taken}
use Rattle.rk_model.specs.State.{Objects, SemaphoreState, BarrierState, PartitionState, PeriodState, no_thread, no_semaphore, no_barrier, no_partition, no_period}
use Rattle.rk_model.specs.Directives.Objects.{has_begun, begun_in}
use Rattle.rk_model.specs.Histories.{begun, places, named_from, begun_names}
use Rattle.rk_ids.specs.LiveObjects.{IsSplit}
use Rattle.rk_ids.proofs.FreeIndexLemmas.{split_none}
use Rattle.rk_parts.specs.NamesAgree.{TakesFirst, taken_in, IsNamed, AreNamed}

-- a number stands in a range where it is within it
times_in_range : (t a n : ℕ) → times t (range_with_len a n) ≡ cond (nat_le a t && nat_lt t (a + n)) 1 0
times_in_range t a zero = grind (arith, nat_tests)
times_in_range t a (suc n) = grind (arith, nat_tests, times_in_range t (a + 1) n)

-- the tasks of init lines have the indices from a number on
indices_from : (a : ℕ) (inits : List Init) → indices (named_from a inits) ≡ range_with_len a (length inits)
indices_from a [] = refl
indices_from a (init ∷ inits) = ap (λ xs. a ∷ xs) (indices_from (a + 1) inits)

-- the first n of m numbers and the others are all
both_ranges : (i n m : ℕ) → n ≤ m → times i (range_with_len 1 n) + times i (range_with_len (n + 1) (m - n)) ≡ cond (nat_le 1 i && nat_le i m) 1 0
both_ranges i n m few = grind (arith, nat_tests, few, times_in_range i 1 n, times_in_range i (n + 1) (m - n))

pub split_begun : (inits : List Init) → length inits ≤ 64 → IsSplit (begun_names inits)
split_begun inits few i = ap (λ xs. times i xs + times i (range_with_len (length inits + 1) (64 - length inits))) (indices_from 1 inits) ∙ both_ranges i (length inits) 64 few

-- of the first places those of init lines have a live thread
live_place : (s : Scenario) (n : ℕ) (inits : List Init) (i : ℕ) → length inits ≤ n → has_begun (get_or (places n (map (begun s) inits)) i no_thread).life ≡ nat_lt i (length inits)
live_place s zero [] i few = grind (arith, nat_tests)
live_place s zero (init ∷ inits) i few = absurd (omega (arith, few))
live_place s (suc n) [] zero few = refl
live_place s (suc n) [] (suc i) few = live_place s n [] i (omega arith) ∙ (grind (arith, nat_tests))
live_place s (suc n) (init ∷ inits) zero few = grind (arith, nat_tests)
live_place s (suc n) (init ∷ inits) (suc i) few = live_place s n inits i (omega (arith, few)) ∙ (grind (arith, nat_tests))

live_begun : (s : Scenario) (n : ℕ) (inits : List Init) (t : ℕ) → length inits ≤ n → times t (range_with_len 1 (length inits)) ≡ cond (has_begun (nth no_thread (places n (map (begun s) inits)) t).life) 1 0
live_begun s n inits zero few = grind (arith, nat_tests, times_in_range 0 1 (length inits))
live_begun s n inits (suc i) few =
    let e = live_place s n inits i few in
    rw e (grind (arith, nat_tests, times_in_range (suc i) 1 (length inits)))

-- behind them there is no thread
blank_place : (s : Scenario) (n : ℕ) (inits : List Init) (i : ℕ) → has_begun (get_or (places n (map (begun s) inits)) i no_thread).life ≡ false → get_or (places n (map (begun s) inits)) i no_thread ≡ no_thread
blank_place s zero inits i none = refl
blank_place s (suc n) [] zero none = refl
blank_place s (suc n) [] (suc i) none = blank_place s n [] i none
blank_place s (suc n) (init ∷ inits) zero none = absurd (false≢true (sym none))
blank_place s (suc n) (init ∷ inits) (suc i) none = blank_place s n inits i none

-- the table in which these tasks alone have names
abbrev pub begun_table : List Init → Table
begun_table inits = record no_objects { tasks = begun_names inits }

-- where there are places alone there is no semaphore
pub none_locks : (i : ℕ) → nth no_semaphore (replicate 64 no_semaphore) i ≡ no_semaphore
none_locks zero = refl
none_locks (suc i) = no_lock 64 i where
  no_lock : (n i : ℕ) → get_or (replicate n no_semaphore) i no_semaphore ≡ no_semaphore
  no_lock zero i = refl
  no_lock (suc n) zero = refl
  no_lock (suc n) (suc i) = no_lock n i

-- nor a barrier
pub no_hall : (n i : ℕ) → get_or (replicate n no_barrier) i no_barrier ≡ no_barrier
no_hall zero i = refl
no_hall (suc n) zero = refl
no_hall (suc n) (suc i) = no_hall n i

pub none_stands : (i : ℕ) → nth no_barrier (replicate 64 no_barrier) i ≡ no_barrier
none_stands zero = refl
none_stands (suc i) = no_hall 64 i

-- a partition
pub no_pool : (n i : ℕ) → get_or (replicate n no_partition) i no_partition ≡ no_partition
no_pool zero i = refl
no_pool (suc n) zero = refl
no_pool (suc n) (suc i) = no_pool n i

none_divided : (i : ℕ) → nth no_partition (replicate 64 no_partition) i ≡ no_partition
none_divided zero = refl
none_divided (suc i) = no_pool 64 i

-- or a period
pub none_timed : (i : ℕ) → nth no_period (replicate 64 no_period) i ≡ no_period
none_timed zero = refl
none_timed (suc i) = no_place_of 64 i where
  no_place_of : (n i : ℕ) → get_or (replicate n no_period) i no_period ≡ no_period
  no_place_of zero i = refl
  no_place_of (suc n) zero = refl
  no_place_of (suc n) (suc i) = no_place_of n i

-- the objects where these tasks alone have begun
abbrev pub begun_objects : Scenario → List Init → Objects
begun_objects s inits = record { threads = places 64 (map (begun s) inits); semaphores = replicate 64 no_semaphore; barriers = replicate 64 no_barrier; partitions = replicate 64 no_partition; periods = replicate 64 no_period }

pub named_begun : (s : Scenario) (inits : List Init) → length inits ≤ 64 → AreNamed (begun_table inits) (begun_objects s inits)
named_begun s inits few = record { class = class; blank = blank; free = λ i _. none_locks i; bare = λ i _. none_stands i; unused = λ i _. none_divided i; idle = λ i _. none_timed i } where
  class : (c : Class) → IsNamed (names_of c (begun_table inits)) (begun_in (begun_objects s inits) c)
  class Task = record { split = split_begun inits few; live = λ t. ap (times t) (indices_from 1 inits) ∙ live_begun s 64 inits t few }
  class Semaphore = record { split = split_none; live = λ t. ap (λ (x : SemaphoreState). cond x.live 1 0) (sym (none_locks t)) }
  class Partition = record { split = split_none; live = λ t. ap (λ (x : PartitionState). cond x.live 1 0) (sym (none_divided t)) }
  class Period = record { split = split_none; live = λ t. ap (λ (x : PeriodState). cond x.live 1 0) (sym (none_timed t)) }
  class Barrier = record { split = split_none; live = λ t. ap (λ (x : BarrierState). cond x.live 1 0) (sym (none_stands t)) }

  blank : (t : ℕ) → has_begun (nth no_thread (places 64 (map (begun s) inits)) t).life ≡ false → nth no_thread (places 64 (map (begun s) inits)) t ≡ no_thread
  blank zero none = refl
  blank (suc i) none = blank_place s 64 inits i none

-- where there is no task yet
pub named_vacant : (s : Scenario) → AreNamed no_objects (begun_objects s [])
named_vacant s = named_begun s [] (omega arith)

-- one more init line has its name
named_push : (a : ℕ) (inits : List Init) (init : Init) → named_from a (inits ++ init ∷ []) ≡ named_from a inits ++ (let x : Named = record { index = a + length inits; name = init.name } in x) ∷ []
named_push a [] init = let e : a + 0 ≡ a = omega arith in rw e refl
named_push a (x ∷ xs) init =
    let e : a + suc (length xs) ≡ a + 1 + length xs = omega arith in
    rw e (ap (λ ys. (let y : Named = record { index = a; name = x.name } in y) ∷ ys) (named_push (a + 1) xs init))

range_first : (a m n : ℕ) → n ≡ suc m → range_with_len a n ≡ a ∷ range_with_len (a + 1) m
range_first a m n e = rw e refl

-- the name of one init line more, which takes the first free index
names_more : (inits : List Init) (i : ℕ) (none : Init) → i < length inits → length inits ≤ 64 →
    ((begun_names (take i inits)).free ≡ (i + 1) ∷ range_with_len (i + 1 + 1) (64 - (i + 1))) × (taken (begun_names (take i inits)) (i + 1) (range_with_len (i + 1 + 1) (64 - (i + 1))) (get_or inits i none).name.bits ≡ begun_names (take (i + 1) inits))
names_more inits i none within few =
    let init = get_or inits i none in
    let done = take i inits in
    let size : length done ≡ i = omega (arith, length-take i inits) in
    let more : take (i + 1) inits ≡ done ++ init ∷ [] = take_more inits i none within in
    let first : (begun_names done).free ≡ (i + 1) ∷ range_with_len (i + 1 + 1) (64 - (i + 1)) = ap (λ n. range_with_len (n + 1) (64 - n)) size ∙ range_first (i + 1) (64 - (i + 1)) (64 - i) (omega (arith, within, few)) in
    let e : 1 + i ≡ i + 1 = omega arith in
    let grown : length (done ++ init ∷ []) ≡ i + 1 = omega (arith, length-append done (init ∷ []), size) in
    let live : named_from 1 (done ++ init ∷ []) ≡ named_from 1 done ++ (let x : Named = record { index = i + 1; name = init.name } in x) ∷ [] =
    named_push 1 done init ∙ ap (λ n. named_from 1 done ++ (let x : Named = record { index = n; name = init.name } in x) ∷ []) (ap (λ n. 1 + n) size ∙ e) in
    let free : (begun_names (done ++ init ∷ [])).free ≡ range_with_len (i + 1 + 1) (64 - (i + 1)) = ap (λ n. range_with_len (n + 1) (64 - n)) grown in (
      first,
      ap (λ (xs : List Named). (let x : Names = record { live = xs; free = range_with_len (i + 1 + 1) (64 - (i + 1)) } in x)) (sym live)
          ∙ ap (λ (xs : List ℕ). (let x : Names = record { live = named_from 1 (done ++ init ∷ []); free = xs } in x)) (sym free)
          ∙ ap begun_names (sym more),
    )

takes_first : (index name : ℕ) (free rest : List ℕ) (found : Option ℕ) (old new : Table) → free ≡ index ∷ rest → TakesFirst free (taken_in Task name old) found old new → new ≡ with_names Task (taken old.tasks index rest name) old
takes_first index name free rest found old new is takes = (subst (λ (xs : List ℕ). TakesFirst xs (taken_in Task name old) found old new) is takes).1

pub named_more : (inits : List Init) (i : ℕ) (none : Init) (found : Option ℕ) (old new : Table) → i < length inits → length inits ≤ 64 → old ≡ begun_table (take i inits) → TakesFirst old.tasks.free (taken_in Task (get_or inits i none).name.bits old) found old new → new ≡ begun_table (take (i + 1) inits)
named_more inits i none found old new within few so_far takes =
    let name = (get_or inits i none).name.bits in
    let rest = range_with_len (i + 1 + 1) (64 - (i + 1)) in
    let more = names_more inits i none within few in
    takes_first (i + 1) name old.tasks.free rest found old new (ap (λ (x : Table). x.tasks.free) so_far ∙ more.0) takes
    ∙ ap (λ (x : Table). with_names Task (taken x.tasks (i + 1) rest name) x) so_far
    ∙ ap (λ (names : Names). (let x : Table = record no_objects { tasks = names } in x)) more.1
