-- What holds of histories.
use Rattle.std.specs.Prelude.{ℕ, ◌≡◌, ◌≢◌, ◌≤◌, ◌↔◌, List, [], ◌∷◌, ◌++◌, true, None, length}
use Rattle.rk_model.specs.declared.scenario.Scenario.{Scenario}
use Rattle.rk_model.specs.declared.entry.Entry.{Entry}
use Rattle.rk_model.specs.State.{Plain}
use Rattle.rk_model.specs.Scheduling.Running.{caller, is_quiet}
use Rattle.rk_model.specs.Steps.{act}
use Rattle.rk_model.specs.Histories.{Legal, after, ends, is_end, lowest}

-- The planned history is legal, however it is cut.
abbrev pub LowestIsLegal : Type 0
LowestIsLegal = (s : Scenario) (n : ℕ) → Legal s (lowest s n)

-- That history has at most as many entries as it was cut to.
abbrev pub LowestIsWithin : Type 0
LowestIsWithin = (s : Scenario) (n : ℕ) → length (lowest s n) ≤ n

-- A kernel is quiet exactly where no processor has a directive.
abbrev pub QuietMeansNoDirective : Type 0
QuietMeansNoDirective = (k : Plain) → is_quiet k ≡ true ↔ ((p : ℕ) → caller k p ≡ None)

-- In a legal history nothing follows End.
abbrev pub NothingFollowsEnd : Type 0
NothingFollowsEnd = (s : Scenario) (xs ys : List Entry) (x : Entry) → Legal s (xs ++ x ∷ ys) → is_end x.what ≡ true → ys ≡ []

-- After a legal history that ends with End no processor acts.
abbrev pub NoProcessorActsAfterEnd : Type 0
NoProcessorActsAfterEnd = (s : Scenario) (xs : List Entry) → Legal s xs → ends xs ≡ true → (p : ℕ) → p ≢ 8 → act (after s xs) p ≡ None
