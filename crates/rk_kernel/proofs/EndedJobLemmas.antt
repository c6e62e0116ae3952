-- The statistics of a list of ended jobs, as one more job ends.
use Rattle.std.proofs.Common.{◌≡◌, ℕ, ◌+◌, ◌==◌, List, [], ◌∷◌, ◌++◌, Bool, true, false, cond, length, length-append, arith, refl, ap, sym, ◌∙◌}
use Rattle.std.specs.Prelude.{min, max, sum, filter}
use Rattle.std.proofs.lemmas.List.{map_push, length-map}
use Rattle.std.proofs.lemmas.List.Sums.{sum_by-append}
use Rattle.std.proofs.lemmas.Bool.Decides.{nat_tests}
use Rattle.rk_model.specs.declared.period.EndedJob.{EndedJob}
use Rattle.rk_model.specs.State.{no_stats}
use Rattle.rk_model.specs.Directives.Periods.{least_with, with_job}
use Rattle.rk_model.specs.Statistics.{least_of, greatest_of, computed_in, elapsed_in, stats_of}

-- where no job has ended
pub stats_none : stats_of [] ≡ no_stats
stats_none = refl

-- how many jobs there are, and how many late ones, with one more at the end
count-end : (jobs : List EndedJob) (job : EndedJob) → length (jobs ++ job ∷ []) ≡ length jobs + 1
count-end jobs job = length-append jobs (job ∷ [])

missed-end : (jobs : List EndedJob) (job : EndedJob) → length (filter (λ (j : EndedJob). j.late) (jobs ++ job ∷ [])) ≡ cond job.late (length (filter (λ (j : EndedJob). j.late) jobs) + 1) (length (filter (λ (j : EndedJob). j.late) jobs))
missed-end [] job = by job.late where
  by : (b : Bool) → length (cond b (job ∷ []) []) ≡ cond b (0 + 1) 0
  by true = refl
  by false = refl
missed-end (x ∷ jobs) job = by x.late job.late (missed-end jobs job) where
  late : List EndedJob → List EndedJob
  late js = filter (λ (j : EndedJob). j.late) js

  by : (b d : Bool) → length (late (jobs ++ job ∷ [])) ≡ cond d (length (late jobs) + 1) (length (late jobs)) → length (cond b (x ∷ late (jobs ++ job ∷ [])) (late (jobs ++ job ∷ []))) ≡ cond d (length (cond b (x ∷ late jobs) (late jobs)) + 1) (length (cond b (x ∷ late jobs) (late jobs)))
  by true true same = omega (arith, same)
  by true false same = omega (arith, same)
  by false true same = same
  by false false same = same

-- the sum, the greatest and the least of these numbers, with one more at the end
sum-end : (xs : List ℕ) (x : ℕ) → sum (xs ++ x ∷ []) ≡ sum xs + x
sum-end xs x = let one : 0 + x ≡ x = omega arith in sum_by-append (λ n. n) xs (x ∷ []) ∙ ap (λ n. sum xs + n) one

max-first : (x : ℕ) → max x 0 ≡ max 0 x
max-first x = grind arith

max-last : (y a b x : ℕ) → a ≡ max b x → max y a ≡ max (max y b) x
max-last y a b x e = rw e (grind arith)

min-last : (y a b x : ℕ) → a ≡ min b x → min y a ≡ min (min y b) x
min-last y a b x e = rw e (grind arith)

greatest-end : (xs : List ℕ) (x : ℕ) → greatest_of (xs ++ x ∷ []) ≡ max (greatest_of xs) x
greatest-end [] x = max-first x
greatest-end (y ∷ ys) x = max-last y _ _ x (greatest-end ys x)

least-end : (xs : List ℕ) (x : ℕ) → least_of (xs ++ x ∷ []) ≡ least_with (length xs == 0) (least_of xs) x
least-end [] x = refl
least-end (y ∷ []) x = refl
least-end (y ∷ z ∷ zs) x =
    let more : (length (z ∷ zs) == 0) ≡ false = some z zs in
    let more' : (length (y ∷ z ∷ zs) == 0) ≡ false = some y (z ∷ zs) in
    min-last y _ _ x (least-end (z ∷ zs) x ∙ ap (λ b. least_with b (least_of (z ∷ zs)) x) more) ∙ ap (λ b. least_with b (least_of (y ∷ z ∷ zs)) x) (sym more')
  where
    some : (x : ℕ) (xs : List ℕ) → (length (x ∷ xs) == 0) ≡ false
    some x xs = grind (arith, nat_tests)

-- One more job ends.
pub stats_with : (jobs : List EndedJob) (job : EndedJob) → stats_of (jobs ++ job ∷ []) ≡ with_job job (stats_of jobs)
stats_with jobs job = λ i. record {
  count = count-end jobs job i;
  missed = missed-end jobs job i;
  cpu_least = (ap least_of computed ∙ least-end (computed_in jobs) job.computed ∙ ap (λ n. least_with (n == 0) (least_of (computed_in jobs)) job.computed) (length-map jobs (λ (j : EndedJob). j.computed))) i;
  cpu_greatest = (ap greatest_of computed ∙ greatest-end (computed_in jobs) job.computed) i;
  cpu_total = (ap sum computed ∙ sum-end (computed_in jobs) job.computed) i;
  wall_least = (ap least_of elapsed ∙ least-end (elapsed_in jobs) job.elapsed ∙ ap (λ n. least_with (n == 0) (least_of (elapsed_in jobs)) job.elapsed) (length-map jobs (λ (j : EndedJob). j.elapsed))) i;
  wall_greatest = (ap greatest_of elapsed ∙ greatest-end (elapsed_in jobs) job.elapsed) i;
  wall_total = (ap sum elapsed ∙ sum-end (elapsed_in jobs) job.elapsed) i;
} where
  computed : computed_in (jobs ++ job ∷ []) ≡ computed_in jobs ++ job.computed ∷ []
  computed = map_push (λ (j : EndedJob). j.computed) jobs job

  elapsed : elapsed_in (jobs ++ job ∷ []) ≡ elapsed_in jobs ++ job.elapsed ∷ []
  elapsed = map_push (λ (j : EndedJob). j.elapsed) jobs job
