-- What checking comes to: before and now are the bytes that a source has left, and had and has the bytes that a sink has taken, where they tell them.
use Rattle.std.specs.Prelude.{ℕ, ◌≡◌, ◌≤◌, ◌+◌, ◌⊎◌, List, ◌∷◌, Option, Some, None, length}
use Rattle.rk_io.specs.Bytes.{Consumes, IsUsedUp, Appends, AppendsPrefix}
use Rattle.rk_model.specs.declared.limits.TheConstants.{MOST_CHECKED}
use Rattle.rk_model.specs.declared.scenario.Scenario.{Scenario}
use Rattle.rk_model.specs.declared.scenario.ScenarioWhy.TheVariants.{TooLarge}
use Rattle.rk_model.specs.Text.Scenarios.{ScenarioText}
use Rattle.rk_model.specs.Text.Reading.{Fault, scenario_fault}
use Rattle.rk_model.specs.Text.ScheduleFaults.{ScheduleFault, IsSchedule, IsFaultOf, ScheduleFaultIs}
use Rattle.rk_cli.specs.Cuts.{parted}
use Rattle.rk_cli.specs.Texts.{refusal_text, ok_text, schedule_refusal_text}
use Rattle.rk_cli.specs.Statuses.{IsOneOf}

-- The source was read to its end; its first part is a text of the scenario, and its second part these bytes.
pub record HasBoth (before now : Option (List ℕ)) (s : Scenario) (schedule : List ℕ) : Type 0 where
  pub bytes : List ℕ
  pub taken : Consumes before now bytes
  pub end : IsUsedUp before now
  pub small : length bytes ≤ MOST_CHECKED
  pub text : ScenarioText (parted bytes).scenario s
  pub schedule_is : (parted bytes).schedule ≡ schedule

-- The source was read to its end, and its first part has this fault; or it had more bytes than may be checked.
pub record HasNoScenario (before now : Option (List ℕ)) (fault : Fault) : Type 0 where
  pub bytes : List ℕ
  pub taken : Consumes before now bytes
  pub fault_is : ((length bytes ≤ MOST_CHECKED) × IsUsedUp before now × (scenario_fault (parted bytes).scenario ≡ Some fault)) ⊎ ((length bytes ≡ MOST_CHECKED + 1) × (fault ≡ record { line = 0; why = TooLarge }))

-- The second part is the schedule of a finished history, and that was written.
pub record HasCheck (before now had has : Option (List ℕ)) : Type 0 where
  pub scenario : Scenario
  pub schedule : List ℕ
  pub input : HasBoth before now scenario schedule
  pub is : IsSchedule scenario schedule
  pub written : Appends had has ok_text

-- The second part has a fault, and its refusal was written.
pub record HasScheduleRefusal (before now had has : Option (List ℕ)) : Type 0 where
  pub scenario : Scenario
  pub schedule : List ℕ
  pub fault : ScheduleFault
  pub input : HasBoth before now scenario schedule
  pub is : IsFaultOf scenario schedule fault
  pub written : Appends had has (schedule_refusal_text fault)

-- The first part has a fault, and its refusal was written.
pub record HasScenarioRefusal (before now had has : Option (List ℕ)) : Type 0 where
  pub fault : Fault
  pub input : HasNoScenario before now fault
  pub written : Appends had has (refusal_text fault)

-- The text is what is to be written for what was read.
abbrev pub IsCheckReply : Option (List ℕ) → Option (List ℕ) → List ℕ → Type 0
IsCheckReply before now text =
    ((s : Scenario) × (schedule : List ℕ) × HasBoth before now s schedule × IsSchedule s schedule × (text ≡ ok_text))
    ⊎ ((s : Scenario) × (schedule : List ℕ) × (fault : ScheduleFault) × HasBoth before now s schedule × IsFaultOf s schedule fault × (text ≡ schedule_refusal_text fault))
    ⊎ ((fault : Fault) × HasNoScenario before now fault × (text ≡ refusal_text fault))

-- The input was read, and a prefix of what is to be written for it was written.
pub record HasCheckPart (before now had has : Option (List ℕ)) : Type 0 where
  pub text : List ℕ
  pub reply : IsCheckReply before now text
  pub written : AppendsPrefix had has text

-- the status of a check: 0 where nothing is wrong with the schedule, and else 7
abbrev pub check_status : Option ScheduleFault → ℕ
check_status None = 0
check_status (Some fault) = 7

-- A source that had a text of a scenario, and behind the mark bytes of which this is wrong, or nothing, gets the status of that, unless one of the others comes. None: it doesn't tell its bytes.
abbrev pub ChecksSchedule : Option (List ℕ) → List ℕ → ℕ → Type 0
ChecksSchedule None others result = Unit {0}
ChecksSchedule (Some bytes) others result =
    length bytes ≤ MOST_CHECKED → (s : Scenario) → ScenarioText (parted bytes).scenario s → (fault : Option ScheduleFault) → ScheduleFaultIs s (parted bytes).schedule fault → IsOneOf (check_status fault ∷ others) result

-- A source that had too many bytes, or whose first part had a fault, gets the status of a refusal, unless one of the others comes. None: it doesn't tell its bytes.
abbrev pub RefusesParted : Option (List ℕ) → List ℕ → ℕ → Type 0
RefusesParted None others result = Unit {0}
RefusesParted (Some bytes) others result = (MOST_CHECKED + 1 ≤ length bytes) ⊎ ((fault : Fault) × (scenario_fault (parted bytes).scenario ≡ Some fault)) → IsOneOf (2 ∷ others) result
