-- What comes of a command, from what each of its statuses says and from when the source and the sink fail.
use Rattle.std.proofs.Common.{◌≡◌, ◌∙◌, sym, ⊎_elim, inl, inr, ℕ, List, [], ◌∷◌}
use Rattle.rk_model.specs.declared.scenario.Scenario.{Scenario}
use Rattle.rk_model.specs.declared.entry.Entry.{Entry}
use Rattle.rk_cli.specs.Statuses.{IsPlan, IsCheck, IsWord, IsOneOf}
use Rattle.rk_cli.specs.Answers.{SaysOfSchedule}
use Rattle.rk_cli.specs.CheckAnswers.{SaysOfCheck}
use Rattle.rk_cli.specs.Calls.{Streams, AreKept, SaysOfPlainWords, WritesLegalSchedule, IsScheduleCall, IsPlanCall, IsCheckCall}
use Rattle.rk_cli.proofs.PlanLemmas.{texts_scheduled, faults_refused, texts_completed, faults_completed, plan_legal}
use Rattle.rk_cli.proofs.CheckLemmas.{schedules_checked, refusals_checked, schedules_completed, refusals_completed}

pub schedule_call : (Meets : Scenario → List Entry → Type 0) (x : Streams) (result : ℕ) → SaysOfSchedule Meets x.before x.now x.had x.has result → AreKept x result → IsScheduleCall Meets x result
schedule_call Meets x result says kept =
    let texts = texts_scheduled Meets x.before x.now x.had x.has result says in
    let faults = faults_refused Meets x.before x.now x.had x.has result says in
    record {
      says = says;
      texts = texts;
      faults = faults;
      complete = λ none. texts_completed Meets _ _ _ _ _ _ texts kept.read_fault kept.write_fault none.0 none.1;
      complete_refusal = λ none. faults_completed _ _ _ _ _ _ faults kept.read_fault kept.write_fault none.0 none.1;
    }

pub check_call : (x : Streams) (result : ℕ) → SaysOfCheck x.before x.now x.had x.has result → AreKept x result → IsCheckCall x result
check_call x result run kept =
    let schedules = schedules_checked x.before x.now x.had x.has result run in
    let faults = refusals_checked x.before x.now x.had x.has result run in
    record {
      says = run;
      schedules = schedules;
      faults = faults;
      complete = λ none. schedules_completed _ _ _ _ _ _ schedules kept.read_fault kept.write_fault none.0 none.1;
      complete_refusal = λ none. refusals_completed _ _ _ _ _ _ faults kept.read_fault kept.write_fault none.0 none.1;
    }

-- one word has one text
pub one_word : {W : Type 0} (text : W → List ℕ) (words : List W) (a b : List ℕ) → IsWord a text words → IsWord b text words → a ≡ b
one_word text [] a b p q = absurd p
one_word text (w ∷ []) a b p q = sym p ∙ q
one_word text (w ∷ o ∷ ws) a b p q = absurd p

-- where `check` isn't the word, 0 and 4 are of a plan
plan_of : {W : Type 0} (text : W → List ℕ) (words : List W) (result : ℕ) → SaysOfPlainWords text words result → ¬ IsCheck text words → IsOneOf (0 ∷ 4 ∷ []) result → IsPlan text words
plan_of text words result says other (inl e) = ⊎_elim (λ p. p) (λ c. absurd (other c)) (says.either (inl e))
plan_of text words result says other (inr (inl e)) = says.plan e
plan_of text words result says other (inr (inr none)) = absurd none

pub plain_legal : {W : Type 0} (text : W → List ℕ) (words : List W) (x : Streams) (result : ℕ) → SaysOfPlainWords text words result → (IsPlan text words → IsPlanCall x result) → ¬ IsCheck text words → WritesLegalSchedule x result
plain_legal text words x result says call other among = plan_legal x.before x.now x.had x.has result (call (plan_of text words result says other among)).says among
