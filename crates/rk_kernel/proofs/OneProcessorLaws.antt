-- With one processor a legal history goes on in one way.
use Rattle.std.proofs.Common.{◌≡◌, ◌⊎◌, inl, inr, ⊎_elim, ◌∙◌, ◌<◌, ◌≤◌, refl, sym, ap, subst, arith, ℕ, List, [], ◌∷◌, length, Bool, true, false, cond, eqb, Option, Some, None, is_none}
use Rattle.std.proofs.lemmas.Bool.{cases_lt}
use Rattle.std.proofs.lemmas.Bool.Decides.{nat_tests}
use mathlib.Core.List.{IsPrefix}
use Rattle.rk_model.specs.declared.entry.Entry.{Entry}
use Rattle.rk_model.specs.declared.scenario.Scenario.{Scenario}
use Rattle.rk_model.specs.State.{Plain}
use Rattle.rk_model.specs.Scheduling.Running.{caller, least, least_from, first_of}
use Rattle.rk_model.specs.Scheduling.Seats.{cpu_count}
use Rattle.rk_model.specs.Steps.{Act, act, act_of, clock_at, clock_of}
use Rattle.rk_model.specs.Histories.{opening, next_of, next_by, after, IsOf, Legal, LegalFrom, lowest}
use Rattle.rk_model.specs.Text.Scenarios.{IsScenario, cpus_in}
use Rattle.rk_model.proofs.LegalityLemmas.{lowest_legal, lowest_within, past_caller, prefix_whole, done_whole}
use Rattle.rk_kernel.proofs.HistoryLemmas.{Both, kept_act, kept_after}
use Rattle.rk_kernel.proofs.ReachedLemmas.{cpus_free, kept_count}
use Rattle.rk_kernel.proofs.LowestHistoryLaws.{lowest_goes}
use Rattle.rk_kernel.specs.SchedulingLaws.{HistoriesOfOneProcessorAreEqual, HistoriesOfOneProcessorArePlanned}

-- ---- one seat has something to do

abbrev HasOne : Plain → Type 0
HasOne k = cpu_count k ≡ 1

first_is : (k : Plain) → HasOne k → least k ≡ first_of (caller k 0) 0 None
first_is k e = ap (least_from k 0) e

-- which seat has something to do
abbrev Whose : Plain → ℕ → Type 0
Whose k p = ((p ≡ 8) × (least k ≡ None)) ⊎ ((p ≡ 0) × (least k ≡ Some 0))

quiet_by : (o : Option ℕ) (x : Option Act) (a : Act) → cond (is_none o) x None ≡ Some a → o ≡ None
quiet_by None x a h = refl
quiet_by (Some p) x a h = let no : ⊥ = cc (h) in absurd no

calls_by : (k : Plain) (p : ℕ) (o : Option ℕ) (a : Act) → act_of k p o ≡ Some a → (t : ℕ) × (o ≡ Some t)
calls_by k p None a h = let no : ⊥ = cc (h) in absurd no
calls_by k p (Some t) a h = (t, refl)

whose_by : (k : Plain) (p : ℕ) (a : Act) → HasOne k → (b : Bool) → eqb p 8 ≡ b → cond b (clock_of k) (act_of k p (caller k p)) ≡ Some a → Whose k p
whose_by k p a one true e h = inl (grind (arith, nat_tests, e), quiet_by (least k) (clock_at k) a h)
whose_by k p a one false e h =
    let c = calls_by k p (caller k p) a h in
    let low : p < cpu_count k = ⊎_elim (λ (l : p < cpu_count k). l) (λ (l : cpu_count k ≤ p). let none = past_caller k p l in let no : ⊥ = cc (none, c.1) in absurd no) (cases_lt p (cpu_count k)) in
    let here : p ≡ 0 = omega (arith, low, one) in
    let at : caller k 0 ≡ Some c.0 = ap (caller k) (sym here) ∙ c.1 in
    inr (here, first_is k one ∙ ap (λ o. first_of o 0 None) at)

whose : (k : Plain) (p : ℕ) (a : Act) → HasOne k → act k p ≡ Some a → Whose k p
whose k p a one h = whose_by k p a one (eqb p 8) refl h

none_some : (o : Option ℕ) (p : ℕ) → o ≡ None → o ≡ Some p → ⊥
none_some o p e f = cc (e, f)

same_seat : (k : Plain) (p q : ℕ) → Whose k p → Whose k q → p ≡ q
same_seat k p q (inl x) (inl y) = x.0 ∙ sym y.0
same_seat k p q (inl x) (inr y) = absurd (none_some (least k) 0 x.1 y.1)
same_seat k p q (inr x) (inl y) = absurd (none_some (least k) 0 y.1 x.1)
same_seat k p q (inr x) (inr y) = x.0 ∙ sym y.0

-- ---- so it goes on in one way

acted : (o : Option Act) (x : Entry) → IsOf o x → (a : Act) × (o ≡ Some a) × (a.entry ≡ x)
acted None x is = absurd is
acted (Some a) x is = (a, refl, is)

same_some : (a b : Act) → Some a ≡ Some b → a ≡ b
same_some a b e = cc (e)

-- of two legal histories the shorter begins the longer
begins_from : (k : Plain) (xs ys : List Entry) → Both HasOne k → LegalFrom k xs → LegalFrom k ys → length xs ≤ length ys → IsPrefix xs ys
begins_from k [] ys both lx ly short = (ys, refl)
begins_from k (x ∷ xs) [] both lx ly short = absurd (omega arith)
begins_from k (x ∷ xs) (y ∷ ys) both lx ly short =
    let a = acted (act k x.seat) x lx.0 in
    let b = acted (act k y.seat) y ly.0 in
    let seat : x.seat ≡ y.seat = same_seat k x.seat y.seat (whose k x.seat a.0 both.1 a.1) (whose k y.seat b.0 both.1 b.1) in
    let act_same : a.0 ≡ b.0 = same_some a.0 b.0 (sym a.1 ∙ (ap (act k) seat ∙ b.1)) in
    let entry : x ≡ y = sym a.2 ∙ (ap (λ (c : Act). c.entry) act_same ∙ b.2) in
    let next_is : next_by k x ≡ a.0.next = ap (next_of k) a.1 in
    let next_same : next_by k y ≡ next_by k x = ap (next_by k) (sym entry) in
    let after_both : Both HasOne (next_by k x) = subst (Both HasOne) (sym next_is) (kept_act HasOne (kept_count 1) k x.seat a.0 both a.1) in
    let rest = begins_from (next_by k x) xs ys after_both lx.2 (subst (λ (m : Plain). LegalFrom m ys) next_same ly.2) (omega (arith, short)) in
    (rest.0, λ i. entry i ∷ rest.1 i)

begins : (s : Scenario) (xs ys : List Entry) → IsScenario s → cpus_in s.clusters ≡ 1 → Legal s xs → Legal s ys → length xs ≤ length ys → IsPrefix xs ys
begins s xs ys is one lx ly short = begins_from (opening s) xs ys (kept_after HasOne (kept_count 1) s [] is (cpus_free s.clusters ∙ one)) lx ly short

pub one_history : HistoriesOfOneProcessorAreEqual
one_history s xs ys is one lx ly same = prefix_whole xs ys (begins s xs ys is one lx ly (omega (arith, same))) (omega (arith, same))

-- with one processor each done history is the planned one
pub done_is_planned : HistoriesOfOneProcessorArePlanned
done_is_planned s n xs is one legal within done =
    let plan = lowest s n in
    let plan_legal = lowest_legal s n in
    let plan_within = lowest_within s n in
    ⊎_elim
    (λ (h : length xs < length plan). done_whole s n xs plan plan_legal plan_within (begins s xs plan is one legal plan_legal (omega (arith, h))) done)
    (λ (h : length plan ≤ length xs). sym (done_whole s n plan xs legal within (begins s plan xs is one plan_legal legal h) (lowest_goes s n is)))
    (cases_lt (length xs) (length plan))
