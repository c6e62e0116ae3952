-- A narrow row on the state cut to its cluster comes to the cut of what it comes to on the whole.
use Rattle.std.proofs.Common.{◌≡◌, ℕ, zero, suc, List, [], ◌∷◌, Bool, true, false, cond, ◌==◌, Option, Some, None, length, map, refl, sym, ap, ◌∙◌, subst, get_or, set, ⊎_elim}
use Rattle.std.specs.Bool.{if◌then◌else◌}
use Rattle.std.proofs.lemmas.Bool.{cases_lt}
use Rattle.std.proofs.lemmas.List.{get_or-map, get_or_past, length-map}
use Rattle.rk_model.specs.declared.ids.Class.TheVariants.{Task}
use Rattle.rk_model.specs.declared.scenario.Target.{Target}
use Rattle.rk_model.specs.declared.scenario.Target.TheVariants.{Var, Own, Given}
use Rattle.rk_model.specs.declared.state.Thread.{Thread}
use Rattle.rk_model.specs.declared.status.Status.TheVariants.{AlreadySuspended}
use Rattle.rk_model.specs.Ids.{index_in}
use Rattle.rk_model.specs.Lists.{with_nth}
use Rattle.rk_model.specs.State.{Plain, no_thread, thread_at, put_thread}
use Rattle.rk_model.specs.Directives.Objects.{has_begun, object_of, live_one}
use Rattle.rk_model.specs.Directives.Outcomes.{Outcome, Refused, done, on_found, var_at}
use Rattle.rk_model.specs.Directives.Tasks.{task_of, task_named, with_suspended, task_suspend}
use Rattle.rk_kernel.specs.Cut.{cut_thread, cut, LivesAt, Commutes, SuspendNeedsItsClusterAlone}

thread_cut : (k : Plain) (c t : ℕ) → thread_at (cut k c) t ≡ cut_thread c (thread_at k t)
thread_cut k c zero = refl
thread_cut k c (suc i) = ⊎_elim (λ h. get_or-map (cut_thread c) k.threads i no_thread no_thread h) (λ h. rw (get_or_past k.threads i no_thread h, get_or_past (map (cut_thread c) k.threads) i no_thread (rw length-map h)) refl) (cases_lt i (length k.threads))

kept : (k : Plain) (c t : ℕ) → LivesAt k c t → thread_at (cut k c) t ≡ thread_at k t
kept k c t lives = thread_cut k c t ∙ (rw (lives.life, lives.home) refl)

-- to put a thread of that cluster and to cut may change places
put_cut : (k : Plain) (c t : ℕ) (x : Thread) → has_begun x.life ≡ true → (x.home == c) ≡ true → put_thread (cut k c) t x ≡ cut (put_thread k t x) c
put_cut k c t x life home = ap (λ ts. record (cut k c) { threads = ts }) (by k.threads t (rw (life, home) refl)) where
  at : (xs : List Thread) (i : ℕ) → cut_thread c x ≡ x → set (map (cut_thread c) xs) i x ≡ map (cut_thread c) (set xs i x)
  at [] i e = refl
  at (y ∷ ys) zero e = ap (λ z. z ∷ map (cut_thread c) ys) (sym e)
  at (y ∷ ys) (suc i) e = ap (λ zs. cut_thread c y ∷ zs) (at ys i e)

  by : (xs : List Thread) (t : ℕ) → cut_thread c x ≡ x → with_nth (map (cut_thread c) xs) t x ≡ map (cut_thread c) (with_nth xs t x)
  by xs zero e = refl
  by xs (suc i) e = at xs i e

-- the row on the found task
abbrev row : Plain → Option ℕ → Outcome
row k o = on_found o (λ u. if (thread_at k u).suspended then Refused AlreadySuspended else done 0 (with_suspended k u true))

by_test : (k : Plain) (c u : ℕ) (b : Bool) (whole lent : Plain) → lent ≡ cut whole c → Commutes k c (if b then Refused AlreadySuspended else done 0 whole) (if b then Refused AlreadySuspended else done 0 lent)
by_test k c u true whole lent e = record { told = refl; state = refl }
by_test k c u false whole lent e = record { told = refl; state = e }

found_commutes : (k : Plain) (c u : ℕ) → LivesAt k c u → Commutes k c (row k (Some u)) (row (cut k c) (Some u))
found_commutes k c u lives =
    let same = kept k c u lives in
    let put : with_suspended (cut k c) u true ≡ cut (with_suspended k u true) c =
    ap (λ (x : Thread). put_thread (cut k c) u (record x { suspended = true })) same ∙ put_cut k c u (record (thread_at k u) { suspended = true }) lives.life lives.home in
    subst (λ (b : Bool). Commutes k c (row k (Some u)) (if b then Refused AlreadySuspended else done 0 (with_suspended (cut k c) u true))) (sym (ap (λ (x : Thread). x.suspended) same))
    (by_test k c u (thread_at k u).suspended (with_suspended k u true) (with_suspended (cut k c) u true) put)

-- whom a caller of the cluster asks for, where that one lives there too
named_cut : (k : Plain) (c t : ℕ) (id : Target) (u : ℕ) → LivesAt k c t → LivesAt k c u → task_named k t id ≡ Some u → task_named (cut k c) t id ≡ Some u
named_cut k c t id u caller lives is = by id is where
  here : (v : ℕ) (b : Bool) → has_begun (thread_at k v).life ≡ b → cond b (Some v) None ≡ Some u → live_one (cut k c) Task (Some v) ≡ Some u
  here v true e is =
      let same : v ≡ u = cc in
      let begun : has_begun (thread_at (cut k c) v).life ≡ true = ap (λ w. has_begun (thread_at (cut k c) w).life) same ∙ ap (λ (x : Thread). has_begun x.life) (kept k c u lives) ∙ lives.life in
      ap (λ b. cond b (Some v) None) begun ∙ is
  here v false e is = let no : ⊥ = cc in absurd no

  one : (o : Option ℕ) → live_one k Task o ≡ Some u → live_one (cut k c) Task o ≡ Some u
  one None e = e
  one (Some v) e = here v (has_begun (thread_at k v).life) refl e

  of : (bits : ℕ) → task_of k t bits ≡ Some u → task_of (cut k c) t bits ≡ Some u
  of bits e = by_zero (bits == 0) e where
    by_zero : (b : Bool) → cond b (Some t) (object_of k Task bits) ≡ Some u → cond b (Some t) (object_of (cut k c) Task bits) ≡ Some u
    by_zero true e = e
    by_zero false e = one (index_in Task bits) e

  by : (id : Target) → task_named k t id ≡ Some u → task_named (cut k c) t id ≡ Some u
  by Own is = is
  by (Given bits) is = of bits is
  by (Var var) is = ap (λ (x : Thread). task_of (cut k c) t (get_or x.vars var 0)) (kept k c t caller) ∙ of (var_at k t var) is

pub suspend_commutes : SuspendNeedsItsClusterAlone
suspend_commutes k c t u id caller lives is =
    subst (λ (o : Option ℕ). Commutes k c (row k o) (task_suspend (cut k c) t id)) (sym is)
    (subst (λ (o : Option ℕ). Commutes k c (row k (Some u)) (row (cut k c) o)) (sym (named_cut k c t id u caller lives is)) (found_commutes k c u lives))
