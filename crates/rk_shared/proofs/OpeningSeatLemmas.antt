-- The marks of an opening, as its seats are made.
use Rattle.std.proofs.Common.{◌≡◌, refl, sym, ap, subst, arith, ℕ, suc, List, [], ◌∷◌, Option, Some, None}
use Rattle.std.specs.Prelude.{IsSome}
use mathlib.Core.Logic.{dite}
use native.Mathlib.Decide.{dec_lt}
use Rattle.atomic_table.specs.Seated.{TableId}
use Rattle.rk_model.specs.declared.scenario.Scenario.{Scenario}
use Rattle.rk_model.specs.State.{Plain}
use Rattle.rk_model.specs.Histories.{opening}
use Rattle.rk_model.specs.Text.Scenarios.{IsScenario}
use Rattle.rk_journal.specs.declared.views.Noted.{Noted}
use Rattle.rk_journal.specs.JournalViews.{MarkView, JournalView}
use Rattle.rk_journal.specs.MarkRegisters.{mark_at, AreOf}
use Rattle.rk_shared.specs.Keeps.{Keeps, AreOfParts}
use Rattle.rk_shared.specs.Openings.{AreLeft, first_mark}

-- none but those of the parts are left
parts_left : (o : TableId) (ms : List (Option MarkView)) → AreLeft o 17 17 ms → AreOfParts ms
parts_left o ms left = record {
  parts_in = λ k h. subst (λ (x : Option MarkView). IsSome x) (sym (left.parts k h)) refl;
  seats_out = λ k h. dite (dec_lt k 17) (λ low. left.taken k h low) (λ high. left.above k (omega (arith, high)));
}

all_from : (o : TableId) (ms : List (Option MarkView)) → ((k : ℕ) (m : MarkView) → mark_at ms k ≡ Some m → m.opening ≡ o) → AreOf o ms
all_from o [] h = tt
all_from o (Some m ∷ ms) h = (h 0 m refl, all_from o ms (λ k. h (suc k)))
all_from o (None ∷ ms) h = all_from o ms (λ k. h (suc k))

pub same_mark : (x : Option MarkView) (m n : MarkView) → Some m ≡ x → x ≡ Some n → m ≡ n
same_mark x m n e f = cc (e, f)

of_left : (o : TableId) (ms : List (Option MarkView)) → AreLeft o 17 17 ms → AreOf o ms
of_left o ms left = all_from o ms (λ k m e. dite (dec_lt k 9)
    (λ low. ap (λ (n : MarkView). n.opening) (same_mark (mark_at ms k) m (first_mark o k) (sym e) (left.parts k low)))
    (λ high. let none : mark_at ms k ≡ None = dite (dec_lt k 17) (λ h. left.taken k (omega (arith, high)) h) (λ h. left.above k (omega (arith, h))) in let no : ⊥ = cc (e, none) in absurd no))

-- at the opening all is kept
pub keeps_opening : (s : Scenario) (o : TableId) (parts : Plain) (j : JournalView) (ms : List (Option MarkView)) → IsScenario s → parts ≡ opening s → j.opening ≡ o → j.limit ≡ s.limit → j.log ≡ [] → AreLeft o 17 17 ms → Keeps s o parts j ms
keeps_opening s o parts j ms scenario is same limit empty left =
    let P : List Noted → Type 0 = λ log. Keeps s o parts record { opening = j.opening; limit = j.limit; log = log } ms in
    subst P (sym empty) record {
      scenario = scenario;
      opening_is = same;
      limit = limit;
      state = is;
      legal = tt;
      within = omega arith;
      keyed = tt;
      marks_of = of_left o ms left;
      marks_in = parts_left o ms left;
    }
