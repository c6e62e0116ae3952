-- A seat's step: what it says of the seat, and that what lies behind the lock stays kept.
use Rattle.std.proofs.Common.{◌≡◌, ◌≢◌, ◌==◌, ◌∙◌, ◌<◌, ◌≤◌, refl, sym, ap, subst, arith, length, ℕ, List, [], ◌∷◌, ◌++◌, Bool, true, false, cond, eqb, ltb, Option, Some, None, is_none, length-append, append_assoc}
use Rattle.std.proofs.lemmas.List.{append-nil}
use Rattle.std.proofs.lemmas.Bool.{false≢true}
use Rattle.std.proofs.lemmas.Bool.Decides.{nat_tests}
use mathlib.Core.List.{IsPrefix}
use Rattle.atomic_table.specs.Seated.{TableId}
use Rattle.rk_model.specs.declared.entry.Entry.{Entry}
use Rattle.rk_model.specs.declared.entry.Why.{Why}
use Rattle.rk_model.specs.declared.entry.What.TheVariants.{Tick, End}
use Rattle.rk_model.specs.declared.scenario.Scenario.{Scenario}
use Rattle.rk_model.specs.State.{Plain}
use Rattle.rk_model.specs.Scheduling.Running.{caller, running, least, why_of}
use Rattle.rk_model.specs.Scheduling.Seats.{cpu_count}
use Rattle.rk_model.specs.Scheduling.Ticks.{tick as ticked_state}
use Rattle.rk_model.specs.Steps.{Act, act, clock_entry}
use Rattle.rk_model.specs.Histories.{opening, next_of, after, is_end, IsOf, Legal, of}
use Rattle.rk_model.specs.Keys.{seat_key}
use Rattle.rk_model.specs.Text.Scenarios.{cpus_in}
use Rattle.rk_model.proofs.LegalityLemmas.{own, after_push, legal_push}
use Rattle.rk_model.proofs.LimitLemmas.{limits_of}
use Rattle.rk_kernel.specs.declared.steps.CoreStep.TheVariants as core
use Rattle.rk_kernel.specs.declared.steps.CoreTick.TheVariants as clock
use Rattle.rk_kernel.specs.Step.{IsStep, IsTick}
use Rattle.rk_kernel.proofs.ReachedLemmas.{count_after}
use Rattle.rk_journal.specs.declared.journal.JournalState.TheVariants as state
use Rattle.rk_journal.specs.declared.views.Noted.{Noted}
use Rattle.rk_journal.specs.Logs.{noted, Quiet, entries_of}
use Rattle.rk_journal.specs.JournalViews.{JournalView, MarkView}
use Rattle.rk_journal.specs.MarkRegisters.{AreOf}
use Rattle.rk_journal.specs.JournalAnswers.{state_of}
use Rattle.rk_journal.proofs.LogLemmas.{entries-append, length-entries}
use Rattle.rk_journal.proofs.JournalAnswerLemmas.{over_means, full_means, open_means}
use Rattle.rk_shared.specs.declared.answers.Stepped.{Stepped}
use Rattle.rk_shared.specs.declared.answers.Stepped.TheVariants as step
use Rattle.rk_shared.specs.declared.answers.TickAnswer.{TickAnswer}
use Rattle.rk_shared.specs.declared.answers.TickAnswer.TheVariants as tick
use Rattle.rk_shared.specs.KeyedLogs.{AreKeyed}
use Rattle.rk_shared.specs.Keeps.{Keeps, AreOfParts, IsPlaced}
use Rattle.rk_shared.specs.SeatSteps.{Steps, IsStepOf, IsTickOf, HasMet, answer_of_step, answer_of_clock, tick_answer, with_act, seen_after}
use Rattle.rk_shared.proofs.SeatEntryLemmas.{keyed_push, of-append, quiet_own, quiet_begins}

no_act : (k : Plain) (q : ℕ) → q < 8 → caller k q ≡ None → act k q ≡ None
no_act k q low none =
    let test : eqb q 8 ≡ false = grind (arith, nat_tests, low) in
    rw (test, none) refl

no_tick : (k : Plain) (p : ℕ) → least k ≡ Some p → act k 8 ≡ None
no_tick k p first = rw first refl

-- What is kept, where the mark of a seat with this old front has just met the whole history.
pub record Meeting (s : Scenario) (o : TableId) (parts : Plain) (j : JournalView) (marks : List (Option MarkView)) (q : ℕ) (front : List Noted) (mark : MarkView) : Type 0 where
  pub keeps : Keeps s o parts j marks
  pub quiet : Quiet (seat_key q) front j.log
  pub seen : mark.front ≡ j.log

-- it has, by the clauses of `meet`
pub meets : {s : Scenario} {o : TableId} {parts : Plain} {j met : JournalView} {marks : List (Option MarkView)} {new : MarkView} (q : ℕ) (old : MarkView) → Keeps s o parts j marks → old.key ≡ seat_key q
    → met ≡ j → new ≡ record { opening = old.opening; front = j.log; key = old.key } → Quiet old.key old.front j.log → Meeting s o parts met marks q old.front new
meets {s = s} {o = o} {parts = parts} {j = j} {marks = marks} q old keeps key same mark quiet = record {
  keeps = subst (λ (x : JournalView). Keeps s o parts x marks) (sym same) keeps;
  quiet = subst (λ (x : JournalView). Quiet (seat_key q) old.front x.log) (sym same) (subst (λ (k : ℕ). Quiet k old.front j.log) key quiet);
  seen = ap (λ (m : MarkView). m.front) mark ∙ ap (λ (x : JournalView). x.log) (sym same);
}

module _ {s : Scenario} {o : TableId} {parts : Plain} {j : JournalView} {marks : List (Option MarkView)} {q : ℕ} {front : List Noted} {mark : MarkView} (m : Meeting s o parts j marks q front mark) where
  abbrev es : List Entry
  es = entries_of j.log

  abbrev old : List Entry
  old = entries_of front

  -- a processor of the scenario is one of the kernel, and one of the first eight
  pub is_there : q < cpus_in s.clusters → q < cpu_count parts
  is_there low = omega (arith, low, ap cpu_count m.keeps.state, count_after s es m.keeps.scenario)

  is_few : q < cpus_in s.clusters → q < 8
  is_few low = omega (arith, low, (limits_of s m.keeps.scenario).few_cpus)

  extends : IsPrefix old es
  extends = quiet_begins (seat_key q) front j.log m.quiet

  same_own : of es q ≡ of old q
  same_own = quiet_own q front j.log m.keeps.keyed m.quiet

  within : length es ≤ s.limit
  within = omega (arith, length-entries j.log, m.keeps.within, m.keeps.limit)

  at_limit : (length j.log == j.limit) ≡ true → (length es == s.limit) ≡ true
  at_limit h = let l = length-entries j.log in let k = m.keeps.limit in grind (arith, nat_tests)

  below_limit : (length j.log == j.limit) ≡ false → (length es == s.limit) ≡ false
  below_limit h = let l = length-entries j.log in let k = m.keeps.limit in grind (arith, nat_tests)

  -- the seat has met the whole history
  pub has_met : HasMet s q old es
  has_met = record { extends = extends; own = same_own; legal = m.keeps.legal; within = within }

  stays : es ≡ seen_after s q es → Steps s q old es es []
  stays h = record {
    extends = extends;
    own_before = same_own;
    front = h;
    grows = extends;
    legal = m.keeps.legal;
    within = within;
    own = same_own ∙ sym (append-nil (of old q));
  }

  stays_over : state.Over ≡ state_of j → Steps s q old es es []
  stays_over e = let t = over_means j e in stays (rw t refl)

  stays_full : state.Full ≡ state_of j → Steps s q old es es []
  stays_full e = let t = full_means j e in let n = at_limit t.1 in stays (rw (t.0, n) refl)

  stays_still : state.Open ≡ state_of j → act parts q ≡ None → Steps s q old es es []
  stays_still e none =
      let t = open_means j e in
      let n = below_limit t.1 in
      let here : act (after s es) q ≡ None = ap (λ k. act k q) (sym m.keeps.state) ∙ none in
      stays (rw (t.0, n) (ap (with_act es) (sym here)))

  -- the seat does something
  module _ (a : Act) (goes : state.Open ≡ state_of j) (acted : act parts q ≡ Some a) where
    here : act (after s es) q ≡ Some a
    here = ap (λ k. act k q) (sym m.keeps.state) ∙ acted

    seat : a.entry.seat ≡ q
    seat = (own parts q a acted).seat

    at_seat : act (after s es) a.entry.seat ≡ Some a
    at_seat = ap (act (after s es)) seat ∙ here

    legal_now : Legal s (es ++ a.entry ∷ [])
    legal_now = legal_push (opening s) es a.entry m.keeps.legal (open_means j goes).0 (subst (λ (x : Option Act). IsOf x a.entry) (sym at_seat) refl)

    room : length (es ++ a.entry ∷ []) ≤ s.limit
    room =
        let t = (open_means j goes).1 in
        let ne : length j.log ≢ j.limit = grind (arith, nat_tests) in
        omega (arith, length-append es (a.entry ∷ []), length-entries j.log, m.keeps.within, m.keeps.limit, ne)

    own_now : of (es ++ a.entry ∷ []) q ≡ of old q ++ a.entry ∷ []
    own_now =
        let test : (a.entry.seat == q) ≡ true = grind (arith, nat_tests, seat) in
        let one : of (a.entry ∷ []) q ≡ a.entry ∷ [] = rw test refl in
        of-append es (a.entry ∷ []) q ∙ (ap (λ l. l ++ of (a.entry ∷ []) q) same_own ∙ ap (λ l. of old q ++ l) one)

    moves : Steps s q old es (es ++ a.entry ∷ []) (a.entry ∷ [])
    moves =
        let t = open_means j goes in
        let n = below_limit t.1 in
        record {
          extends = extends;
          own_before = same_own;
          front = rw (t.0, n) (ap (with_act es) (sym here));
          grows = (extends.0 ++ a.entry ∷ [], sym (append_assoc old extends.0 (a.entry ∷ [])) ∙ ap (λ l. l ++ a.entry ∷ []) extends.1);
          legal = legal_now;
          within = room;
          own = own_now;
        }

    module _ {now : JournalView} (placed : IsPlaced a.entry j now) where
      entries_now : entries_of now.log ≡ es ++ a.entry ∷ []
      entries_now = ap (λ (x : JournalView). entries_of x.log) placed.is ∙ entries-append j.log (noted a.entry placed.keys ∷ [])

      -- what was kept is kept again, once its entry is appended
      pub keeps_moved : (left : List (Option MarkView)) → AreOf j.opening left → AreOfParts left → Keeps s o a.next now left
      keeps_moved left of_left parts_left = record {
        scenario = m.keeps.scenario;
        opening_is = ap (λ (x : JournalView). x.opening) placed.is ∙ m.keeps.opening_is;
        limit = ap (λ (x : JournalView). x.limit) placed.is ∙ m.keeps.limit;
        state = sym (ap (next_of (after s es)) at_seat) ∙ (sym (after_push (opening s) es a.entry) ∙ ap (after s) (sym entries_now));
        legal = subst (Legal s) (sym entries_now) legal_now;
        within = (let l = ap (λ (x : JournalView). x.limit) placed.is in let n : length now.log ≡ length (es ++ a.entry ∷ []) = sym (length-entries now.log) ∙ ap length entries_now in let r = room in omega (arith, l, n, r, m.keeps.limit));
        keyed = subst AreKeyed (sym (ap (λ (x : JournalView). x.log) placed.is)) (keyed_push j.log (noted a.entry placed.keys) m.keeps.keyed placed.keyed);
        marks_of = subst (λ (z : TableId). AreOf z left) m.keeps.opening_is of_left;
        marks_in = parts_left;
      }

      -- and the mark of its seat has seen it
      pub seen_now : (last : MarkView) → last ≡ record { opening = mark.opening; front = now.log; key = mark.key } → es ++ a.entry ∷ [] ≡ entries_of last.front
      seen_now last is = sym (ap (λ (x : MarkView). entries_of x.front) is ∙ entries_now)

  -- ---- the answers of a processor

  at_seen : (answer : Stepped) → IsStepOf s q old es answer → IsStepOf s q old (entries_of mark.front) answer
  at_seen answer is = subst (λ (l : List Noted). IsStepOf s q old (entries_of l) answer) (sym m.seen) is

  pub step_over : state.Over ≡ state_of j → IsStepOf s q old (entries_of mark.front) step.Over
  step_over e = let t = over_means j e in at_seen step.Over record { met = es; steps = stays_over e; is = rw t refl }

  pub step_full : state.Full ≡ state_of j → IsStepOf s q old (entries_of mark.front) step.Full
  step_full e = let t = full_means j e in let n = at_limit t.1 in at_seen step.Full record { met = es; steps = stays_full e; is = rw (t.0, n) refl }

  pub step_nothing : (why : Why) (next : Plain) → state.Open ≡ state_of j → q < cpus_in s.clusters → IsStep parts q (core.Nothing why) next → IsStepOf s q old (entries_of mark.front) (step.Nothing why)
  step_nothing why next e low is =
      let t = open_means j e in
      let n = below_limit t.1 in
      let none = no_act parts q (is_few low) is.0 in
      let here : act (after s es) q ≡ None = ap (λ k. act k q) (sym m.keeps.state) ∙ none in
      let view : why ≡ why_of (running (after s es) q) = is.1 ∙ ap (λ k. why_of (running k q)) m.keeps.state in
      at_seen (step.Nothing why) record { met = es; steps = stays_still e none; is = rw (t.0, n) (ap step.Nothing view ∙ ap (answer_of_step (running (after s es) q)) (sym here)) }

  pub step_did : (a : Act) (new : List Entry) → state.Open ≡ state_of j → act parts q ≡ Some a → es ++ a.entry ∷ [] ≡ new → IsStepOf s q old new (step.Did a.entry)
  step_did a new e is now =
      let t = open_means j e in
      let n = below_limit t.1 in
      let here : act (after s es) q ≡ Some a = ap (λ k. act k q) (sym m.keeps.state) ∙ is in
      subst (λ (l : List Entry). IsStepOf s q old l (step.Did a.entry)) now record { met = es; steps = moves a e is; is = rw (t.0, n) (ap (answer_of_step (running (after s es) q)) (sym here)) }

-- ---- the answers of the clock

abbrev answer_by : Bool → Option ℕ → TickAnswer
answer_by b (Some p) = tick.NotYet p
answer_by b None = cond b tick.Ticked tick.Ended

abbrev ends_with : Option Act → Bool
ends_with (Some a) = is_end a.entry.what
ends_with None = false

ticked_by : (o : Option ℕ) (b d : Bool) (t e a : Act) → is_end e.entry.what ≡ true → is_end a.entry.what ≡ false → cond (is_none o) (cond b (Some t) (cond d (Some e) None)) None ≡ Some a → answer_by b o ≡ tick.Ticked
ticked_by (Some p) b d t e a end go h = let no : ⊥ = cc (h) in absurd no
ticked_by None true d t e a end go h = refl
ticked_by None false true t e a end go h = absurd (false≢true (sym go ∙ (sym (ap ends_with h) ∙ end)))
ticked_by None false false t e a end go h = let no : ⊥ = cc (h) in absurd no

ended_by : (o : Option ℕ) (b d : Bool) (t e a : Act) → is_end t.entry.what ≡ false → is_end a.entry.what ≡ true → cond (is_none o) (cond b (Some t) (cond d (Some e) None)) None ≡ Some a → answer_by b o ≡ tick.Ended
ended_by (Some p) b d t e a go end h = let no : ⊥ = cc (h) in absurd no
ended_by None true d t e a go end h = absurd (false≢true (sym go ∙ (ap ends_with h ∙ end)))
ended_by None false true t e a go end h = refl
ended_by None false false t e a go end h = let no : ⊥ = cc (h) in absurd no

by_same : (k : Plain) (o : Option ℕ) → answer_of_clock k o ≡ answer_by (ltb k.present k.scenario.horizon) o
by_same k (Some p) = refl
by_same k None = refl

answer_ticked : (k next : Plain) → IsTick k clock.Ticked next → answer_of_clock k (least k) ≡ tick.Ticked
answer_ticked k next is =
    by_same k (least k) ∙ ticked_by (least k) (ltb k.present k.scenario.horizon) (eqb k.present k.scenario.horizon) record { entry = clock_entry Tick; next = ticked_state k } record { entry = clock_entry End; next = k } record { entry = clock_entry Tick; next = next } refl refl is

answer_ended : (k next : Plain) → IsTick k clock.Ended next → answer_of_clock k (least k) ≡ tick.Ended
answer_ended k next is =
    by_same k (least k) ∙ ended_by (least k) (ltb k.present k.scenario.horizon) (eqb k.present k.scenario.horizon) record { entry = clock_entry Tick; next = ticked_state k } record { entry = clock_entry End; next = k } record { entry = clock_entry End; next = k } refl refl is.0

-- the end of the run is an act of the clock
pub ended_acts : (k next : Plain) → IsTick k clock.Ended next → act k 8 ≡ Some record { entry = clock_entry End; next = next }
ended_acts k next is = is.0 ∙ ap (λ (x : Plain). let a : Act = record { entry = clock_entry End; next = x } in Some a) (sym is.1)

module _ {s : Scenario} {o : TableId} {parts : Plain} {j : JournalView} {marks : List (Option MarkView)} {front : List Noted} {mark : MarkView} (m : Meeting s o parts j marks 8 front mark) where
  abbrev met : List Entry
  met = entries_of j.log

  seen_by : (answer : TickAnswer) → IsTickOf s (entries_of front) met answer → IsTickOf s (entries_of front) (entries_of mark.front) answer
  seen_by answer is = subst (λ (l : List Noted). IsTickOf s (entries_of front) (entries_of l) answer) (sym m.seen) is

  pub tick_over : state.Over ≡ state_of j → IsTickOf s (entries_of front) (entries_of mark.front) tick.Over
  tick_over e = let t = over_means j e in seen_by tick.Over record { met = met; steps = stays_over m e; is = rw t refl }

  pub tick_full : state.Full ≡ state_of j → IsTickOf s (entries_of front) (entries_of mark.front) tick.Full
  tick_full e = let t = full_means j e in let n = at_limit m t.1 in seen_by tick.Full record { met = met; steps = stays_full m e; is = rw (t.0, n) refl }

  answers : (a : TickAnswer) → state.Open ≡ state_of j → answer_of_clock parts (least parts) ≡ a → a ≡ tick_answer s met
  answers a e is =
      let t = open_means j e in
      let n = below_limit m t.1 in
      rw (t.0, n) (sym is ∙ ap (λ k. answer_of_clock k (least k)) m.keeps.state)

  pub tick_not_yet : (p : ℕ) (next : Plain) → state.Open ≡ state_of j → IsTick parts (clock.NotYet p) next → IsTickOf s (entries_of front) (entries_of mark.front) (tick.NotYet p)
  tick_not_yet p next e is =
      seen_by (tick.NotYet p) record { met = met; steps = stays_still m e (no_tick parts p is.0); is = answers (tick.NotYet p) e (ap (answer_of_clock parts) is.0) }

  pub tick_ticked : (next : Plain) (new : List Entry) → state.Open ≡ state_of j → IsTick parts clock.Ticked next → met ++ clock_entry Tick ∷ [] ≡ new → IsTickOf s (entries_of front) new tick.Ticked
  tick_ticked next new e is now =
      subst (λ (l : List Entry). IsTickOf s (entries_of front) l tick.Ticked) now
      record { met = met; steps = moves m record { entry = clock_entry Tick; next = next } e is; is = answers tick.Ticked e (answer_ticked parts next is) }

  pub tick_ended : (next : Plain) (new : List Entry) → state.Open ≡ state_of j → IsTick parts clock.Ended next → met ++ clock_entry End ∷ [] ≡ new → IsTickOf s (entries_of front) new tick.Ended
  tick_ended next new e is now =
      subst (λ (l : List Entry). IsTickOf s (entries_of front) l tick.Ended) now
      record { met = met; steps = moves m record { entry = clock_entry End; next = parts } e is.0; is = answers tick.Ended e (answer_ended parts next is) }
