-- What checking comes to, by what it has to say.
use Rattle.std.proofs.Common.{◌≡◌, ◌⊎◌, inl, inr, ℕ, ◌+◌, ◌≤◌, List, [], ◌∷◌, Option, Some, None, length, arith, sym, ap, ◌∙◌, subst, length-append}
use Rattle.rk_io.specs.Causes.{Rose}
use Rattle.rk_io.specs.Bytes.{Consumes, IsUsedUp}
use Rattle.rk_io.proofs.InputLemmas.{used_up_had}
use Rattle.rk_model.specs.declared.scenario.Scenario.{Scenario}
use Rattle.rk_model.specs.declared.scenario.ScenarioWhy.TheVariants.{TooLarge}
use Rattle.rk_model.specs.Text.Scenarios.{ScenarioText, IsScenario}
use Rattle.rk_model.specs.Text.Reading.{Fault, scenario_fault}
use Rattle.rk_model.specs.Text.ScheduleFaults.{ScheduleFault, ScheduleFaultIs}
use Rattle.rk_scenario.proofs.TextLemmas.{one_scenario}
use Rattle.rk_schedule.proofs.ReadingLemmas.{answered_once}
use Rattle.rk_cli.specs.Cuts.{parted}
use Rattle.rk_cli.specs.Checks.{HasBoth, HasNoScenario, HasCheckPart, check_status, ChecksSchedule, RefusesParted}
use Rattle.rk_cli.specs.Statuses.{IsOneOf}
use Rattle.rk_cli.specs.Answers.{Emits}
use Rattle.rk_cli.specs.CheckAnswers.{Rejects, SaysOfCheck}
use Rattle.rk_cli.proofs.PlanLemmas.{appends_text, faultless, drop_faults}

-- what a source had that was read to its end
had_both : (before : List ℕ) (now : Option (List ℕ)) (s : Scenario) (schedule : List ℕ) → HasBoth (Some before) now s schedule → ScenarioText (parted before).scenario s × ((parted before).schedule ≡ schedule) × (length before ≤ 104857600)
had_both before now s schedule h =
    let e : before ≡ h.bytes = used_up_had before now h.bytes h.taken h.end in
    (subst (λ (b : List ℕ). ScenarioText (parted b).scenario s) (sym e) h.text, ap (λ (b : List ℕ). (parted b).schedule) e ∙ h.schedule_is, subst (λ (b : List ℕ). length b ≤ 104857600) (sym e) h.small)

-- a source with few enough bytes whose first part is a scenario's text isn't refused for that
no_refusal : (before : List ℕ) (now : Option (List ℕ)) (fault : Fault) (s : Scenario) → HasNoScenario (Some before) now fault → length before ≤ 104857600 → ScenarioText (parted before).scenario s → ⊥
no_refusal before now fault s h few text = by now h.taken h.fault_is where
  by : (n : Option (List ℕ)) → Consumes (Some before) n h.bytes → ((length h.bytes ≤ 104857600) × IsUsedUp (Some before) n × (scenario_fault (parted h.bytes).scenario ≡ Some fault)) ⊎ ((length h.bytes ≡ 104857601) × (fault ≡ record { line = 0; why = TooLarge })) → ⊥
  by None taken is = taken
  by (Some left) taken (inl is) =
      let e : before ≡ h.bytes = used_up_had before (Some left) h.bytes taken is.1 in
      faultless (parted before).scenario fault s (subst (λ (b : List ℕ). scenario_fault (parted b).scenario ≡ Some fault) (sym e) is.2) text
  by (Some left) taken (inr is) = omega (arith, ap length taken, length-append h.bytes left, is.0, few)

known : (before : List ℕ) (s : Scenario) → ScenarioText (parted before).scenario s → IsScenario s
known before s text = record { bytes = (parted before).scenario; text = text }

-- the answer that was found is the one that there is
same_answer : (before : List ℕ) (now : Option (List ℕ)) (s t : Scenario) (schedule : List ℕ) (one other : Option ScheduleFault) → HasBoth (Some before) now t schedule → ScenarioText (parted before).scenario s
    → ScheduleFaultIs s (parted before).schedule one → ScheduleFaultIs t schedule other → one ≡ other
same_answer before now s t schedule one other h text mine its =
    let had = had_both before now t schedule h in
    let same : t ≡ s = one_scenario (parted before).scenario t s had.0 text in
    let there : ScheduleFaultIs s (parted before).schedule other = subst (λ (b : List ℕ). ScheduleFaultIs s b other) (sym had.1) (subst (λ (u : Scenario). ScheduleFaultIs u schedule other) same its) in
    let only = (answered_once s (parted before).schedule (known before s text)).2 in
    only one mine ∙ sym (only other there)

schedule_among : (before : List ℕ) (now had has : Option (List ℕ)) (result : ℕ) → SaysOfCheck (Some before) now had has result → length before ≤ 104857600 → (s : Scenario) → ScenarioText (parted before).scenario s
    → (fault : Option ScheduleFault) → ScheduleFaultIs s (parted before).schedule fault → IsOneOf (0 ∷ 2 ∷ 3 ∷ 5 ∷ 6 ∷ 7 ∷ []) result → IsOneOf (check_status fault ∷ 5 ∷ 6 ∷ 3 ∷ []) result
schedule_among before now had has result run few s text fault is (inl e) =
    let a = run.accepted e in
    let same : fault ≡ None = same_answer before now s a.scenario a.schedule fault None a.input text is a.is in
    inl (e ∙ ap check_status (sym same))
schedule_among before now had has result run few s text fault is (inr (inl e)) = let r = run.refused e in absurd (no_refusal before now r.fault s r.input few text)
schedule_among before now had has result run few s text fault is (inr (inr (inl e))) = inr (inr (inr (inl e)))
schedule_among before now had has result run few s text fault is (inr (inr (inr (inl e)))) = inr (inl e)
schedule_among before now had has result run few s text fault is (inr (inr (inr (inr (inl e))))) = inr (inr (inl e))
schedule_among before now had has result run few s text fault is (inr (inr (inr (inr (inr (inl e)))))) =
    let r = run.rejected e in
    let same : fault ≡ Some r.fault = same_answer before now s r.scenario r.schedule fault (Some r.fault) r.input text is r.is in
    inl (e ∙ ap check_status (sym same))
schedule_among before now had has result run few s text fault is (inr (inr (inr (inr (inr (inr none)))))) = absurd none

-- a source that had a scenario's text and a schedule gets the status of that
pub schedules_checked : (before now had has : Option (List ℕ)) (result : ℕ) → SaysOfCheck before now had has result → ChecksSchedule before (5 ∷ 6 ∷ 3 ∷ []) result
schedules_checked None now had has result run = tt
schedules_checked (Some before) now had has result run = λ few s text fault is. schedule_among before now had has result run few s text fault is run.kind

-- a source with a first part that is none gets the status of a refusal
not_both : (before : List ℕ) (now : Option (List ℕ)) (s : Scenario) (schedule : List ℕ) → HasBoth (Some before) now s schedule → (104857600 + 1 ≤ length before) ⊎ ((fault : Fault) × (scenario_fault (parted before).scenario ≡ Some fault)) → ⊥
not_both before now s schedule h (inl large) = omega (arith, large, (had_both before now s schedule h).2)
not_both before now s schedule h (inr found) = faultless (parted before).scenario found.0 s found.1 (had_both before now s schedule h).0

refusal_among : (before : List ℕ) (now had has : Option (List ℕ)) (result : ℕ) → SaysOfCheck (Some before) now had has result → (104857600 + 1 ≤ length before) ⊎ ((fault : Fault) × (scenario_fault (parted before).scenario ≡ Some fault))
    → IsOneOf (0 ∷ 2 ∷ 3 ∷ 5 ∷ 6 ∷ 7 ∷ []) result → IsOneOf (2 ∷ 5 ∷ 6 ∷ 3 ∷ []) result
refusal_among before now had has result run bad (inl e) = let a = run.accepted e in absurd (not_both before now a.scenario a.schedule a.input bad)
refusal_among before now had has result run bad (inr (inl e)) = inl e
refusal_among before now had has result run bad (inr (inr (inl e))) = inr (inr (inr (inl e)))
refusal_among before now had has result run bad (inr (inr (inr (inl e)))) = inr (inl e)
refusal_among before now had has result run bad (inr (inr (inr (inr (inl e))))) = inr (inr (inl e))
refusal_among before now had has result run bad (inr (inr (inr (inr (inr (inl e)))))) = let r = run.rejected e in absurd (not_both before now r.scenario r.schedule r.input bad)
refusal_among before now had has result run bad (inr (inr (inr (inr (inr (inr none)))))) = absurd none

pub refusals_checked : (before now had has : Option (List ℕ)) (result : ℕ) → SaysOfCheck before now had has result → RefusesParted before (5 ∷ 6 ∷ 3 ∷ []) result
refusals_checked None now had has result run = tt
refusals_checked (Some before) now had has result run = λ bad. refusal_among before now had has result run bad run.kind

-- ---- where no count rises

pub schedules_completed : (before : Option (List ℕ)) (result f g m n : ℕ) → ChecksSchedule before (5 ∷ 6 ∷ 3 ∷ []) result → (result ≡ 5 → Rose f g) → (result ≡ 6 → Rose m n) → ¬ Rose f g → ¬ Rose m n → ChecksSchedule before (3 ∷ []) result
schedules_completed None result f g m n checks read write no_read no_write = tt
schedules_completed (Some before) result f g m n checks read write no_read no_write = λ few s text fault is. drop_faults (check_status fault) result (Rose f g) (Rose m n) no_read no_write read write (checks few s text fault is)

pub refusals_completed : (before : Option (List ℕ)) (result f g m n : ℕ) → RefusesParted before (5 ∷ 6 ∷ 3 ∷ []) result → (result ≡ 5 → Rose f g) → (result ≡ 6 → Rose m n) → ¬ Rose f g → ¬ Rose m n → RefusesParted before (3 ∷ []) result
refusals_completed None result f g m n refuses read write no_read no_write = tt
refusals_completed (Some before) result f g m n refuses read write no_read no_write = λ bad. drop_faults 2 result (Rose f g) (Rose m n) no_read no_write read write (refuses bad)

-- ---- by what there is to say

-- the refusal of a schedule was to be written
pub says_rejected : (before now had has : Option (List ℕ)) (f g : ℕ) (text : List ℕ) (result : ℕ) → Rejects before now text → Emits had has f g text 7 result → SaysOfCheck before now had has result
says_rejected before now had has f g text result rejects emits =
    let part : HasCheckPart before now had has = record { text = text; reply = inr (inl (rejects.scenario, rejects.schedule, rejects.fault, rejects.input, rejects.is, rejects.text_is)); written = emits.part } in
    record {
      kind = grind (arith, emits.kind);
      accepted = λ e. absurd (grind (arith, emits.kind, e));
      refused = λ e. absurd (grind (arith, emits.kind, e));
      rejected = λ e. record { scenario = rejects.scenario; schedule = rejects.schedule; fault = rejects.fault; input = rejects.input; is = rejects.is; written = appends_text had has text _ rejects.text_is (emits.done e) };
      part = λ _. part;
      memory = λ _. inr part;
    }
