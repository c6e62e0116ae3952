-- What a command that writes a schedule comes to, by what it has to say.
use Rattle.std.proofs.Common.{◌≡◌, ◌⊎◌, inl, inr, ℕ, List, [], ◌∷◌, Bool, true, false, cond, Option, Some, None, length, arith, refl, sym, ap, subst, ◌∙◌, ◌≤◌, length-append}
use Rattle.rk_io.specs.Causes.{Rose}
use Rattle.rk_io.specs.Bytes.{Consumes, IsUsedUp, Appends}
use Rattle.rk_io.proofs.InputLemmas.{used_up_had}
use Rattle.rk_model.specs.declared.scenario.Scenario.{Scenario}
use Rattle.rk_model.specs.declared.entry.Entry.{Entry}
use Rattle.rk_model.specs.Text.Scenarios.{ScenarioText, IsScenario}
use Rattle.rk_model.specs.Text.Reading.{Fault, scenario_fault}
use Rattle.rk_model.specs.Histories.{Legal, IsDone, ends}
use Rattle.rk_model.proofs.LegalityLemmas.{lowest_legal}
use Rattle.rk_scenario.proofs.TextLemmas.{one_scenario, faultless_are_texts}
use Rattle.rk_kernel.proofs.LowestHistoryLaws.{lowest_goes}
use Rattle.rk_kernel.proofs.OneProcessorLaws.{done_is_planned}
use Rattle.rk_cli.specs.declared.answer.Answer.{Answer}
use Rattle.rk_cli.specs.declared.answer.Answer.TheVariants.{Finished, Limited, Refused, ReadFault, NoMemory}
use Rattle.rk_cli.specs.Inputs.{HasScenario, HasFault}
use Rattle.rk_cli.specs.Plans.{IsPlanned, IsTaken, HasLegalSchedule, HasPart}
use Rattle.rk_cli.specs.Statuses.{IsOneOf, IsStatusFor, SchedulesText, RefusesFault}
use Rattle.rk_cli.specs.Answers.{Schedules, IsOfHistory, IsAnswer, Emits, SaysOfSchedule}

pub appends_text : (had has : Option (List ℕ)) (a b : List ℕ) → a ≡ b → Appends had has a → Appends had has b
appends_text had has a b e h = rw e at h

-- ---- by the history

cut_entries : (b : Bool) (n limit : ℕ) → (b ≡ true) ⊎ (n ≡ limit) → b ≡ false → n ≡ limit
cut_entries b n limit (inl e) off = let no : ⊥ = cc (e, off) in absurd no
cut_entries b n limit (inr e) off = e

-- what there is to say about a history of the scenario that was read
history_answers : (Meets : Scenario → List Entry → Type 0) (before now : Option (List ℕ)) (f g : ℕ) (s : Scenario) (history : List Entry) (answer : Answer) →
    HasScenario before now s → Meets s history → IsDone s.limit history → IsOfHistory s history answer → IsAnswer Meets before now f g answer
history_answers Meets before now f g s history (Finished text) input meets done is = record { scenario = s; history = history; input = input; meets = meets; end = is.0; entries = λ off. cut_entries (ends history) (length history) s.limit done (is.0 ∙ off); text_is = is.1 }
history_answers Meets before now f g s history (Limited text) input meets done is = record { scenario = s; history = history; input = input; meets = meets; end = is.0; entries = λ off. cut_entries (ends history) (length history) s.limit done (is.0 ∙ off); text_is = is.1 }
history_answers Meets before now f g s history (Refused text) input meets done is = absurd is
history_answers Meets before now f g s history ReadFault input meets done is = absurd is
history_answers Meets before now f g s history NoMemory input meets done is = tt

pub plan_answers : (before now : Option (List ℕ)) (f g : ℕ) (s : Scenario) (history : List Entry) (answer : Answer) →
    IsScenario s → HasScenario before now s → IsPlanned s history → IsOfHistory s history answer → IsAnswer IsPlanned before now f g answer
plan_answers before now f g s history answer known input planned is =
    history_answers IsPlanned before now f g s history answer input planned (subst (λ (xs : List Entry). IsDone s.limit xs) (sym planned) (lowest_goes s s.limit known)) is

pub run_answers : (before now : Option (List ℕ)) (f g : ℕ) (s : Scenario) (history : List Entry) (answer : Answer) →
    HasScenario before now s → IsTaken s history → IsOfHistory s history answer → IsAnswer IsTaken before now f g answer
run_answers before now f g s history answer input taken is = history_answers IsTaken before now f g s history answer input taken taken.done is

-- ---- by what there is to say

-- the schedule of a history that ends with End was to be written
pub says_finished : (Meets : Scenario → List Entry → Type 0) (before now had has : Option (List ℕ)) (f g : ℕ) (text : List ℕ) (result : ℕ) → Schedules Meets before now text true → Emits had has f g text 0 result → SaysOfSchedule Meets before now had has result
says_finished Meets before now had has f g text result x emits =
    let part : HasPart Meets before now had has = record { text = text; reply = inl (x.scenario, x.history, x.input, x.meets, x.text_is); written = emits.part } in
    record {
      kind = grind (arith, emits.kind);
      finished = λ e. record { scenario = x.scenario; history = x.history; input = x.input; meets = x.meets; end = x.end; written = appends_text had has text _ x.text_is (emits.done e) };
      limited = λ e. absurd (grind (arith, emits.kind, e));
      refused = λ e. absurd (grind (arith, emits.kind, e));
      part = λ _. part;
      memory = λ _. inr part;
    }

-- the schedule of a history that was cut was to be written
pub says_limited : (Meets : Scenario → List Entry → Type 0) (before now had has : Option (List ℕ)) (f g : ℕ) (text : List ℕ) (result : ℕ) → Schedules Meets before now text false → Emits had has f g text 4 result → SaysOfSchedule Meets before now had has result
says_limited Meets before now had has f g text result x emits =
    let part : HasPart Meets before now had has = record { text = text; reply = inl (x.scenario, x.history, x.input, x.meets, x.text_is); written = emits.part } in
    record {
      kind = grind (arith, emits.kind);
      finished = λ e. absurd (grind (arith, emits.kind, e));
      limited = λ e. record { scenario = x.scenario; history = x.history; input = x.input; meets = x.meets; no_end = x.end; entries = x.entries refl; written = appends_text had has text _ x.text_is (emits.done e) };
      refused = λ e. absurd (grind (arith, emits.kind, e));
      part = λ _. part;
      memory = λ _. inr part;
    }

-- ---- completeness

cut_text : (before : List ℕ) (now : Option (List ℕ)) (bytes : List ℕ) (s : Scenario) → Consumes (Some before) now bytes → length bytes ≡ 1048577 → ScenarioText before s → ⊥
cut_text before None bytes s taken long text = taken
cut_text before (Some now) bytes s taken long text = omega (arith, ap length taken, length-append bytes now, text.size, long)

-- a text has no fault
pub faultless : (bytes : List ℕ) (fault : Fault) (s : Scenario) → scenario_fault bytes ≡ Some fault → ScenarioText bytes s → ⊥
faultless bytes fault s e text = let none = (faultless_are_texts bytes).1 (s, text) in cc (e, none)

-- a source that had a text of a scenario gave no bytes with a fault
unfaulted : (before : List ℕ) (now : Option (List ℕ)) (fault : Fault) (s : Scenario) → HasFault (Some before) now fault → ScenarioText before s → ⊥
unfaulted before now fault s found text = either found.whole where
  either : IsUsedUp (Some before) now ⊎ (length found.bytes ≡ 1048577) → ⊥
  either (inl end) = let e = used_up_had before now found.bytes found.taken end in faultless before fault s (rw e found.first) text
  either (inr long) = cut_text before now found.bytes s found.taken long text

-- a source that had a text of a scenario gave that scenario
same_scenario : (before : List ℕ) (now : Option (List ℕ)) (s t : Scenario) → HasScenario (Some before) now t → ScenarioText before s → t ≡ s
same_scenario before now s t read text =
    let e = used_up_had before now read.bytes read.taken read.end in
    one_scenario before t s (rw e read.text) text

-- the status of a history that was written is that of a history of the scenario that the source had
status_for : (Meets : Scenario → List Entry → Type 0) (s t : Scenario) (history : List Entry) (b : Bool) (result : ℕ) → t ≡ s → Meets t history → ends history ≡ b → result ≡ cond b 0 4 → IsStatusFor Meets s result
status_for Meets s t history b result same meets e is = record { history = history; meets = subst (λ (x : Scenario). Meets x history) same meets; is = is ∙ ap (λ (c : Bool). cond c 0 4) (sym e) }

text_among : (Meets : Scenario → List Entry → Type 0) (before : List ℕ) (now had has : Option (List ℕ)) (result : ℕ) (s : Scenario) → SaysOfSchedule Meets (Some before) now had has result → ScenarioText before s →
    IsOneOf (0 ∷ 2 ∷ 3 ∷ 4 ∷ 5 ∷ 6 ∷ []) result → IsStatusFor Meets s result ⊎ IsOneOf (5 ∷ 6 ∷ 3 ∷ []) result
text_among Meets before now had has result s says text (inl e) =
    let p = says.finished e in
    inl (status_for Meets s p.scenario p.history true result (same_scenario before now s p.scenario p.input text) p.meets p.end e)
text_among Meets before now had has result s says text (inr (inl e)) = absurd (unfaulted before now (says.refused e).fault s (says.refused e).input text)
text_among Meets before now had has result s says text (inr (inr (inl e))) = inr (inr (inr (inl e)))
text_among Meets before now had has result s says text (inr (inr (inr (inl e)))) =
    let p = says.limited e in
    inl (status_for Meets s p.scenario p.history false result (same_scenario before now s p.scenario p.input text) p.meets p.no_end e)
text_among Meets before now had has result s says text (inr (inr (inr (inr (inl e))))) = inr (inl e)
text_among Meets before now had has result s says text (inr (inr (inr (inr (inr (inl e)))))) = inr (inr (inl e))
text_among Meets before now had has result s says text (inr (inr (inr (inr (inr (inr none)))))) = absurd none

-- a source that had a text of a scenario gets the status of such a history, but for faults and want of memory
pub texts_scheduled : (Meets : Scenario → List Entry → Type 0) (before now had has : Option (List ℕ)) (result : ℕ) → SaysOfSchedule Meets before now had has result → SchedulesText Meets before (5 ∷ 6 ∷ 3 ∷ []) result
texts_scheduled Meets None now had has result says = tt
texts_scheduled Meets (Some before) now had has result says = λ s text. text_among Meets before now had has result s says text says.kind

-- a source that gave a scenario had no fault
read_faultless : (before : List ℕ) (now : Option (List ℕ)) (s : Scenario) (fault : Fault) → HasScenario (Some before) now s → scenario_fault before ≡ Some fault → ⊥
read_faultless before now s fault read found = let e = used_up_had before now read.bytes read.taken read.end in faultless before fault s found (rw e read.text)

fault_among : (Meets : Scenario → List Entry → Type 0) (before : List ℕ) (now had has : Option (List ℕ)) (result : ℕ) (fault : Fault) → SaysOfSchedule Meets (Some before) now had has result → scenario_fault before ≡ Some fault →
    IsOneOf (0 ∷ 2 ∷ 3 ∷ 4 ∷ 5 ∷ 6 ∷ []) result → IsOneOf (2 ∷ 5 ∷ 6 ∷ 3 ∷ []) result
fault_among Meets before now had has result fault says found (inl e) = absurd (read_faultless before now (says.finished e).scenario fault (says.finished e).input found)
fault_among Meets before now had has result fault says found (inr (inl e)) = inl e
fault_among Meets before now had has result fault says found (inr (inr (inl e))) = inr (inr (inr (inl e)))
fault_among Meets before now had has result fault says found (inr (inr (inr (inl e)))) = absurd (read_faultless before now (says.limited e).scenario fault (says.limited e).input found)
fault_among Meets before now had has result fault says found (inr (inr (inr (inr (inl e))))) = inr (inl e)
fault_among Meets before now had has result fault says found (inr (inr (inr (inr (inr (inl e)))))) = inr (inr (inl e))
fault_among Meets before now had has result fault says found (inr (inr (inr (inr (inr (inr none)))))) = absurd none

-- a source that had bytes with a fault gets the status of a refusal, but for faults of its own or of the sink and want of memory
pub faults_refused : (Meets : Scenario → List Entry → Type 0) (before now had has : Option (List ℕ)) (result : ℕ) → SaysOfSchedule Meets before now had has result → RefusesFault before (5 ∷ 6 ∷ 3 ∷ []) result
faults_refused Meets None now had has result says = tt
faults_refused Meets (Some before) now had has result says = λ fault found. fault_among Meets before now had has result fault says found says.kind

-- ---- where no count rises

drop_others : (result : ℕ) (A P Q : Type 0) → (P → ⊥) → (Q → ⊥) → (result ≡ 5 → P) → (result ≡ 6 → Q) → A ⊎ IsOneOf (5 ∷ 6 ∷ 3 ∷ []) result → A ⊎ IsOneOf (3 ∷ []) result
drop_others result A P Q no_read no_write read write (inl a) = inl a
drop_others result A P Q no_read no_write read write (inr (inl e)) = absurd (no_read (read e))
drop_others result A P Q no_read no_write read write (inr (inr (inl e))) = absurd (no_write (write e))
drop_others result A P Q no_read no_write read write (inr (inr (inr (inl e)))) = inr (inl e)
drop_others result A P Q no_read no_write read write (inr (inr (inr (inr none)))) = absurd none

pub drop_faults : (status result : ℕ) (P Q : Type 0) → (P → ⊥) → (Q → ⊥) → (result ≡ 5 → P) → (result ≡ 6 → Q) → IsOneOf (status ∷ 5 ∷ 6 ∷ 3 ∷ []) result → IsOneOf (status ∷ 3 ∷ []) result
drop_faults status result P Q no_read no_write read write among = drop_others result (result ≡ status) P Q no_read no_write read write among

pub texts_completed : (Meets : Scenario → List Entry → Type 0) (before : Option (List ℕ)) (result f g m n : ℕ) → SchedulesText Meets before (5 ∷ 6 ∷ 3 ∷ []) result → (result ≡ 5 → Rose f g) → (result ≡ 6 → Rose m n) → ¬ Rose f g → ¬ Rose m n → SchedulesText Meets before (3 ∷ []) result
texts_completed Meets None result f g m n texts read write no_read no_write = tt
texts_completed Meets (Some before) result f g m n texts read write no_read no_write = λ s text. drop_others result (IsStatusFor Meets s result) (Rose f g) (Rose m n) no_read no_write read write (texts s text)

pub faults_completed : (before : Option (List ℕ)) (result f g m n : ℕ) → RefusesFault before (5 ∷ 6 ∷ 3 ∷ []) result → (result ≡ 5 → Rose f g) → (result ≡ 6 → Rose m n) → ¬ Rose f g → ¬ Rose m n → RefusesFault before (3 ∷ []) result
faults_completed None result f g m n refuses read write no_read no_write = tt
faults_completed (Some before) result f g m n refuses read write no_read no_write = λ fault found. drop_faults 2 result (Rose f g) (Rose m n) no_read no_write read write (refuses fault found)

-- ---- the schedules that are written

-- with 0 and 4 the schedule of a legal history was written
legal_written : (Meets : Scenario → List Entry → Type 0) (before now had has : Option (List ℕ)) (result : ℕ) → ((s : Scenario) (history : List Entry) → Meets s history → Legal s history) → SaysOfSchedule Meets before now had has result → IsOneOf (0 ∷ 4 ∷ []) result → HasLegalSchedule before now had has
legal_written Meets before now had has result lawful says (inl e) = let p = says.finished e in record { scenario = p.scenario; history = p.history; input = p.input; legal = lawful p.scenario p.history p.meets; written = p.written }
legal_written Meets before now had has result lawful says (inr (inl e)) = let p = says.limited e in record { scenario = p.scenario; history = p.history; input = p.input; legal = lawful p.scenario p.history p.meets; written = p.written }
legal_written Meets before now had has result lawful says (inr (inr none)) = absurd none

pub plan_legal : (before now had has : Option (List ℕ)) (result : ℕ) → SaysOfSchedule IsPlanned before now had has result → IsOneOf (0 ∷ 4 ∷ []) result → HasLegalSchedule before now had has
plan_legal before now had has result says among = legal_written IsPlanned before now had has result (λ s history planned. subst (λ (xs : List Entry). Legal s xs) (sym planned) (lowest_legal s s.limit)) says among

pub run_legal : (before now had has : Option (List ℕ)) (result : ℕ) → SaysOfSchedule IsTaken before now had has result → IsOneOf (0 ∷ 4 ∷ []) result → HasLegalSchedule before now had has
run_legal before now had has result says among = legal_written IsTaken before now had has result (λ s history taken. taken.legal) says among

-- ---- the history of a run

-- a history that threads took is one that a run may take
pub taken_by_run : (s : Scenario) (history : List Entry) → IsScenario s → Legal s history → length history ≤ s.limit → IsDone s.limit history → IsTaken s history
taken_by_run s history known legal within done = record { legal = legal; within = within; done = done; alone = λ one. done_is_planned s s.limit history known one legal within done }
