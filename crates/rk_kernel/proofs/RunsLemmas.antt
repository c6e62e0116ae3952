-- Who runs on a processor: the thread that the processor has, which doesn't spin, or the one that it helps.
use Rattle.std.proofs.Common.{◌≡◌, ℕ, Bool, true, false, cond, ◌⊎◌, inl, inr, Option, Some, None, refl, ap, subst, ◌∙◌}
use Rattle.rk_model.specs.declared.entry.View.TheVariants.{Spins, Runs}
use Rattle.rk_model.specs.State.{Plain}
use Rattle.rk_model.specs.Scheduling.Helping.{offer_of, scene, helped}
use Rattle.rk_model.specs.Scheduling.Priorities.{spins}
use Rattle.rk_model.specs.Scheduling.Running.{view_of, running}
use Rattle.rk_model.specs.Scheduling.Seats.{cpu_at}
use Rattle.rk_model.proofs.HelpingLemmas.{IsOffer, offer_says, helped_says}

-- A processor has a thread that doesn't spin.
pub record RunsOwn (k : Plain) (p t : ℕ) : Type 0 where
  pub has : cpu_at k p ≡ Some t
  pub spins_not : spins k t ≡ false

-- A processor has a thread that offers it for another.
pub record RunsOther (k : Plain) (p t : ℕ) : Type 0 where
  pub spinner : ℕ
  pub has : cpu_at k p ≡ Some spinner
  pub offer : IsOffer (scene k) spinner t
  pub helps : helped k p ≡ Some t

pub helps_other : (k : Plain) (p t : ℕ) → helped k p ≡ Some t → RunsOther k p t
helps_other k p t h = by (cpu_at k p) refl (helped_says (scene k) p t h).0 where
  by : (o : Option ℕ) → cpu_at k p ≡ o → offer_of (scene k) o ≡ Some t → RunsOther k p t
  by None at offers = let no : ⊥ = cc in absurd no
  by (Some u) at offers = record { spinner = u; has = at; offer = offer_says (scene k) u t offers; helps = h }

pub runs_says : (k : Plain) (p t : ℕ) → running k p ≡ Runs t → RunsOwn k p t ⊎ RunsOther k p t
runs_says k p t h = by (cpu_at k p) (helped k p) refl refl h where
  own : (u : ℕ) (b : Bool) → spins k u ≡ b → cpu_at k p ≡ Some u → cond b (Spins u) (Runs u) ≡ Runs t → RunsOwn k p t
  own u true is at h = let no : ⊥ = cc in absurd no
  own u false is at h = let same : u ≡ t = cc in record { has = at ∙ ap (λ v. Some v) same; spins_not = subst (λ v. spins k v ≡ false) same is }

  by : (o other : Option ℕ) → cpu_at k p ≡ o → helped k p ≡ other → view_of k o other ≡ Runs t → RunsOwn k p t ⊎ RunsOther k p t
  by None other at is h = let no : ⊥ = cc in absurd no
  by (Some u) None at is h = inl (own u (spins k u) refl at h)
  by (Some u) (Some e) at is h = let same : e ≡ t = cc in inr (helps_other k p t (is ∙ ap (λ v. Some v) same))

-- where a processor helps a thread, it runs it
pub helps_runs : (k : Plain) (p t : ℕ) → helped k p ≡ Some t → running k p ≡ Runs t
helps_runs k p t h = let is = helps_other k p t h in ap (λ o. view_of k o (helped k p)) is.has ∙ ap (view_of k (Some is.spinner)) h
