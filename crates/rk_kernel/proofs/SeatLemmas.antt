-- How many processors have a thread after they are assigned.
use Rattle.std.proofs.Common.{◌≡◌, ℕ, suc, ◌+◌, ◌<◌, ◌≤◌, List, [], ◌∷◌, ◌++◌, Bool, true, false, cond, eqb, not, Option, None, Some, length, length-append, map, arith, refl, sym, ap, ◌∙◌}
use Rattle.std.specs.List.{filter}
use Rattle.std.proofs.lemmas.List.{length-map}
use Rattle.std.proofs.lemmas.Bool.{false≢true}
use Rattle.std.proofs.lemmas.Bool.Decides.{nat_tests}
use Rattle.rk_model.specs.Lists.{has, times}
use Rattle.rk_model.specs.Scheduling.ReadyQueues.{has_cpu, kept, filled, assigned}
use Rattle.rk_kernel.specs.SchedulingLaws.{seats}
use Rattle.rk_model.proofs.CountLemmas.{same_either_way, times-append, times-filter, times-has, times_none, length_by_times}

-- the threads that processors have
abbrev held : List (Option ℕ) → List ℕ
held [] = []
held (None ∷ cpus) = held cpus
held (Some u ∷ cpus) = u ∷ held cpus

-- how many processors are free
abbrev free : List (Option ℕ) → ℕ
free [] = 0
free (None ∷ cpus) = 1 + free cpus
free (Some u ∷ cpus) = free cpus

times_held : (t : ℕ) (cpus : List (Option ℕ)) → times t (held cpus) ≡ seats t cpus
times_held t [] = refl
times_held t (None ∷ cpus) = times_held t cpus
times_held t (Some u ∷ cpus) = omega (arith, times_held t cpus)

free_or_held : (cpus : List (Option ℕ)) → free cpus + length (held cpus) ≡ length cpus
free_or_held [] = refl
free_or_held (None ∷ cpus) = omega (arith, free_or_held cpus)
free_or_held (Some u ∷ cpus) = omega (arith, free_or_held cpus)

-- where there are places for all, each stands on a processor more
seats_filled : (t : ℕ) (cpus : List (Option ℕ)) (ts : List ℕ) → length ts ≤ free cpus → seats t (filled cpus ts) ≡ seats t cpus + times t ts
seats_filled t [] [] few = omega arith
seats_filled t [] (s ∷ ts) few = absurd (never (length ts) few) where
  never : (n : ℕ) → suc n ≤ 0 → ⊥
  never n h = omega (arith, h)
seats_filled t (Some u ∷ cpus) ts few = omega (arith, seats_filled t cpus ts few)
seats_filled t (None ∷ cpus) [] few = seats_filled t cpus [] (omega arith)
seats_filled t (None ∷ cpus) (s ∷ ts) few = omega (arith, seats_filled t cpus ts (omega (arith, few)))

kept_by : (running : List ℕ) (u t n : ℕ) (cpus : List (Option ℕ)) (b : Bool) → has running u ≡ b → (e : Bool) → eqb u t ≡ e → seats t cpus ≡ cond (has running t) n 0 → seats t (cond b (Some u) None ∷ cpus) ≡ cond (has running t) (cond e 1 0 + n) 0
kept_by running u t n cpus true is true e h =
    let same : u ≡ t = grind (arith, nat_tests, e) in
    let runs : has running t ≡ true = ap (has running) (sym same) ∙ is in
    rw (e, runs) (omega (arith, h ∙ ap (λ b. cond b n 0) runs))
kept_by running u t n cpus true is false e h =
    let s : 0 + seats t cpus ≡ seats t cpus = omega arith in
    let z : 0 + n ≡ n = omega arith in
    rw (e, s, z) h
kept_by running u t n cpus false is true e h =
    let same : u ≡ t = grind (arith, nat_tests, e) in
    let waits : has running t ≡ false = ap (has running) (sym same) ∙ is in
    rw waits (h ∙ ap (λ b. cond b n 0) waits)
kept_by running u t n cpus false is false e h =
    let z : 0 + n ≡ n = omega arith in
    rw z h

-- the runners stay, and no others
seats_kept : (running : List ℕ) (t : ℕ) (old : List (Option ℕ)) → seats t (map (kept running) old) ≡ cond (has running t) (seats t old) 0
seats_kept running t [] = same_either_way (has running t) 0
seats_kept running t (None ∷ old) = seats_kept running t old
seats_kept running t (Some u ∷ old) = kept_by running u t (seats t old) (map (kept running) old) (has running u) refl (eqb u t) refl (seats_kept running t old)

pub has_seat : (t : ℕ) (cpus : List (Option ℕ)) → has_cpu cpus t ≡ true → 0 < seats t cpus
has_seat t [] h = absurd (false≢true h)
has_seat t (None ∷ cpus) h = has_seat t cpus h
has_seat t (Some u ∷ cpus) h = grind (arith, nat_tests, h, has_seat t cpus)

pub no_seat : (t : ℕ) (cpus : List (Option ℕ)) → has_cpu cpus t ≡ false → seats t cpus ≡ 0
no_seat t [] h = refl
no_seat t (None ∷ cpus) h = no_seat t cpus h
no_seat t (Some u ∷ cpus) h = grind (arith, nat_tests, h, no_seat t cpus)

-- whether it was on a processor and is a runner: as often as before, and as often as it is fresh
kept_and_fresh : (seated runs : Bool) (s n : ℕ) → s ≤ 1 → n ≤ 1 → (seated ≡ true → 0 < s) → (seated ≡ false → s ≡ 0) → (runs ≡ true → 0 < n) → (runs ≡ false → n ≡ 0) → cond runs s 0 + cond (not seated) n 0 ≡ n
kept_and_fresh true true s n few once a b c d = omega (arith, few, once, a refl, c refl)
kept_and_fresh true false s n few once a b c d = omega (arith, d refl)
kept_and_fresh false true s n few once a b c d = omega (arith, b refl)
kept_and_fresh false false s n few once a b c d = omega (arith, d refl)

-- Where no thread had two processors, no thread runs twice, and there are no more runners than processors, each runner has one processor then, and no other thread has one.
pub seats_assigned : (old : List (Option ℕ)) (running : List ℕ) → ((t : ℕ) → seats t old ≤ 1) → ((t : ℕ) → times t running ≤ 1) → length running ≤ length old → (t : ℕ) → seats t (assigned old running) ≡ times t running
seats_assigned old running few once short t =
    let fresh = filter (λ u. not (has_cpu old u)) running in
    let stays = map (kept running) old in
    let sum : (u : ℕ) → seats u stays + times u fresh ≡ times u running = λ u.
    rw (seats_kept running u old, times-filter (λ v. not (has_cpu old v)) u running)
    (kept_and_fresh (has_cpu old u) (has running u) (seats u old) (times u running) (few u) (once u) (has_seat u old) (no_seat u old) (times-has u running) (times_none u running)) in
    let all = length_by_times (held stays ++ fresh) running (λ u. omega (arith, times-append u (held stays) fresh, times_held u stays, sum u)) in
    let room : length fresh ≤ free stays = omega (arith, all, length-append (held stays) fresh, free_or_held stays, length-map old (kept running), short) in
    seats_filled t stays fresh room ∙ sum t
