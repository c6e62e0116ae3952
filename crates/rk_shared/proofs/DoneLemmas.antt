-- When the clock answers that the history is over or full.
use Rattle.std.proofs.Common.{◌≡◌, ◌≢◌, ◌==◌, refl, inl, inr, ◌∙◌, ap, arith, ℕ, List, Bool, true, false, cond, ltb, Option, Some, None, length}
use Rattle.std.proofs.lemmas.Bool.Decides.{nat_tests}
use Rattle.rk_model.specs.declared.entry.Entry.{Entry}
use Rattle.rk_model.specs.declared.scenario.Scenario.{Scenario}
use Rattle.rk_model.specs.State.{Plain}
use Rattle.rk_model.specs.Scheduling.Running.{least}
use Rattle.rk_model.specs.Steps.{act}
use Rattle.rk_model.specs.Histories.{after, ends, IsDone}
use Rattle.rk_shared.specs.declared.answers.TickAnswer.{TickAnswer}
use Rattle.rk_shared.specs.declared.answers.TickAnswer.TheVariants as tick
use Rattle.rk_shared.specs.SeatSteps.{IsTickOf, answer_of_clock, with_act}

over_clock : (k : Plain) (b : Bool) (o : Option ℕ) → ltb k.present k.scenario.horizon ≡ b → tick.Over ≢ answer_of_clock k o
over_clock k b (Some p) e h = cc (h)
over_clock k true None e h = let f : tick.Over ≡ tick.Ticked = rw e at h in cc (f)
over_clock k false None e h = let f : tick.Over ≡ tick.Ended = rw e at h in cc (f)

full_clock : (k : Plain) (b : Bool) (o : Option ℕ) → ltb k.present k.scenario.horizon ≡ b → tick.Full ≢ answer_of_clock k o
full_clock k b (Some p) e h = cc (h)
full_clock k true None e h = let f : tick.Full ≡ tick.Ticked = rw e at h in cc (f)
full_clock k false None e h = let f : tick.Full ≡ tick.Ended = rw e at h in cc (f)

over_by : (x y : Bool) (z : TickAnswer) → tick.Over ≢ z → tick.Over ≡ cond x tick.Over (cond y tick.Full z) → x ≡ true
over_by true y z ne h = refl
over_by false true z ne h = let no : ⊥ = cc (h) in absurd no
over_by false false z ne h = absurd (ne h)

full_by : (x y : Bool) (z : TickAnswer) → tick.Full ≢ z → tick.Full ≡ cond x tick.Over (cond y tick.Full z) → (x ≡ false) × (y ≡ true)
full_by true y z ne h = let no : ⊥ = cc (h) in absurd no
full_by false true z ne h = (refl, refl)
full_by false false z ne h = absurd (ne h)

same_over : (x y : Bool) (met : List Entry) (rest : List Entry) → x ≡ true → cond x met (cond y met rest) ≡ met
same_over x y met rest e = rw e refl

same_full : (x y : Bool) (met : List Entry) (rest : List Entry) → x ≡ false → y ≡ true → cond x met (cond y met rest) ≡ met
same_full x y met rest e f = rw (e, f) refl

pub done_over : (s : Scenario) (old new : List Entry) → IsTickOf s old new tick.Over → IsDone s.limit new
done_over s old new t =
    let k = after s t.met in
    let end = over_by (ends t.met) (length t.met == s.limit) (answer_of_clock k (least k)) (over_clock k (ltb k.present k.scenario.horizon) (least k) refl) t.is in
    let same : new ≡ t.met = t.steps.front ∙ same_over (ends t.met) (length t.met == s.limit) t.met (with_act t.met (act k 8)) end in
    inl (ap ends same ∙ end)

pub done_full : (s : Scenario) (old new : List Entry) → IsTickOf s old new tick.Full → IsDone s.limit new
done_full s old new t =
    let k = after s t.met in
    let tests = full_by (ends t.met) (length t.met == s.limit) (answer_of_clock k (least k)) (full_clock k (ltb k.present k.scenario.horizon) (least k) refl) t.is in
    let same : new ≡ t.met = t.steps.front ∙ same_full (ends t.met) (length t.met == s.limit) t.met (with_act t.met (act k 8)) tests.0 tests.1 in
    let n : length t.met ≡ s.limit = (let h = tests.1 in grind (arith, nat_tests, h)) in
    inr (ap length same ∙ n)
