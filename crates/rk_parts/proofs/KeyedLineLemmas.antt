-- Lines whose places have the priorities that a function gives.
use Rattle.std.proofs.Common.{◌≡◌, ℕ, List, [], ◌∷◌, Bool, true, false, cond, ◌==◌, ◌||◌, map, arith, refl, ap}
use Rattle.std.proofs.lemmas.Bool.Decides.{nat_tests}
use Rattle.rk_model.specs.Lists.{has}
use Rattle.rk_line.specs.declared.line.Place.{Place}
use Rattle.rk_line.specs.Places.{threads, prio_in}

-- the line of these threads in which each has the priority that the function gives
abbrev pub keyed : (ℕ → ℕ) → List ℕ → List Place
keyed key ts = map (λ t. let place : Place = record { thread = t; prio = key t } in place) ts

pub threads-keyed : (key : ℕ → ℕ) (ts : List ℕ) → threads (keyed key ts) ≡ ts
threads-keyed key [] = refl
threads-keyed key (t ∷ ts) = ap (λ (us : List ℕ). t ∷ us) (threads-keyed key ts)

-- such a thread has that priority there
pub prio_in-keyed : (key : ℕ → ℕ) (ts : List ℕ) (t : ℕ) → has ts t ≡ true → prio_in (keyed key ts) t ≡ key t
prio_in-keyed key [] t h = let no : ⊥ = cc in absurd no
prio_in-keyed key (u ∷ ts) t h = by key u ts t (u == t) refl h (prio_in-keyed key ts t) where
  by : (key : ℕ → ℕ) (u : ℕ) (ts : List ℕ) (t : ℕ) (b : Bool) → (u == t) ≡ b → (b || has ts t) ≡ true → (has ts t ≡ true → prio_in (keyed key ts) t ≡ key t) → cond b (key u) (prio_in (keyed key ts) t) ≡ key t
  by key u ts t true e h more = let same : u ≡ t = grind (arith, nat_tests, e) in ap key same
  by key u ts t false e h more = more h
