-- A call of the program: what it does to its source and its sink, and what comes of each command.
use Rattle.std.specs.Prelude.{ℕ, ◌≡◌, ◌≤◌, ◌⊎◌, List, [], ◌∷◌, Option}
use Rattle.rk_model.specs.declared.scenario.Scenario.{Scenario}
use Rattle.rk_model.specs.declared.entry.Entry.{Entry}
use Rattle.rk_io.specs.Causes.{Rose}
use Rattle.rk_io.specs.Bytes.{ConsumesPrefix, Appends, AppendsPrefix}
use Rattle.rk_cli.specs.Texts.{usage_text}
use Rattle.rk_cli.specs.Statuses.{IsPlan, IsCheck, IsRun, IsPlainUsage, IsUsage, IsOneOf, SchedulesText, RefusesFault}
use Rattle.rk_cli.specs.Plans.{IsPlanned, IsTaken, HasLegalSchedule}
use Rattle.rk_cli.specs.Answers.{SaysOfSchedule}
use Rattle.rk_cli.specs.Checks.{ChecksSchedule, RefusesParted}
use Rattle.rk_cli.specs.CheckAnswers.{SaysOfCheck}

-- A source and a sink around a call: the bytes that the source had left before it and has left now, and those that the sink had taken and has taken, where they tell them; and how many faults each had counted and has counted.
pub record Streams : Type 0 where
  pub before : Option (List ℕ)
  pub now : Option (List ℕ)
  pub had : Option (List ℕ)
  pub has : Option (List ℕ)
  pub read_before : ℕ
  pub read_now : ℕ
  pub write_before : ℕ
  pub write_now : ℕ

-- the streams of a source and a sink, by what they tell of their bytes and of their faults
abbrev pub streams : {S K : Type 0} → (S → Option (List ℕ)) → (S → ℕ) → (K → Option (List ℕ)) → (K → ℕ) → S → S → K → K → Streams
streams left read taken written source source' sink sink' = record {
  before = left source;
  now = left source';
  had = taken sink;
  has = taken sink';
  read_before = read source;
  read_now = read source';
  write_before = written sink;
  write_now = written sink';
}

-- No count of faults rose.
abbrev pub AreFaultless : Streams → Type 0
AreFaultless x = (¬ Rose x.read_before x.read_now) × (¬ Rose x.write_before x.write_now)

-- Whatever the words are: the source gave bytes in their order, and no count of faults fell. Status 5 comes only where the source's count rose, and 6 only where the sink's did.
pub record AreKept (x : Streams) (result : ℕ) : Type 0 where
  pub taken : ConsumesPrefix x.before x.now
  pub source_count : x.read_before ≤ x.read_now
  pub sink_count : x.write_before ≤ x.write_now
  pub read_fault : result ≡ 5 → Rose x.read_before x.read_now
  pub write_fault : result ≡ 6 → Rose x.write_before x.write_now

-- What a status says of the words where `run` is none of the commands: 1 comes for those of no command, 4 for `plan` alone, 7 for `check` alone, and 0, 2 and 5 for either.
pub record SaysOfPlainWords {W : Type 0} (text : W → List ℕ) (words : List W) (result : ℕ) : Type 0 where
  pub usage : result ≡ 1 → IsPlainUsage text words
  pub plan : result ≡ 4 → IsPlan text words
  pub check : result ≡ 7 → IsCheck text words
  pub either : IsOneOf (0 ∷ 2 ∷ 5 ∷ []) result → IsPlan text words ⊎ IsCheck text words

-- What a status says of the words: 1 comes for those of no command, 4 for `plan` and `run`, 7 for `check` alone, and 0, 2 and 5 for each of the three.
pub record SaysOfWords {W : Type 0} (text : W → List ℕ) (words : List W) (result : ℕ) : Type 0 where
  pub usage : result ≡ 1 → IsUsage text words
  pub limited : result ≡ 4 → IsPlan text words ⊎ IsRun text words
  pub check : result ≡ 7 → IsCheck text words
  pub each : IsOneOf (0 ∷ 2 ∷ 5 ∷ []) result → IsPlan text words ⊎ IsCheck text words ⊎ IsRun text words

-- Words of no command: the usage text is written. Status 6 or 3 comes where a part of it was, at most.
pub record IsUsageCall (x : Streams) (result : ℕ) : Type 0 where
  pub status : IsOneOf (1 ∷ 6 ∷ 3 ∷ []) result
  pub usage : result ≡ 1 → Appends x.had x.has usage_text
  pub part : AppendsPrefix x.had x.has usage_text

-- A command that writes the schedule of a history that meets this: what each status says (`says`). A text of a scenario gets the status of such a history, and bytes with a fault get 2, unless the source or the sink failed or memory ran out (`texts`, `faults`); without such a fault only want of memory comes in their place (`complete`, `complete_refusal`).
pub record IsScheduleCall (Meets : Scenario → List Entry → Type 0) (x : Streams) (result : ℕ) : Type 0 where
  pub says : SaysOfSchedule Meets x.before x.now x.had x.has result
  pub texts : SchedulesText Meets x.before (5 ∷ 6 ∷ 3 ∷ []) result
  pub faults : RefusesFault x.before (5 ∷ 6 ∷ 3 ∷ []) result
  pub complete : AreFaultless x → SchedulesText Meets x.before (3 ∷ []) result
  pub complete_refusal : AreFaultless x → RefusesFault x.before (3 ∷ []) result

-- The word `plan`: the schedule is that of the planned history.
abbrev pub IsPlanCall : Streams → ℕ → Type 0
IsPlanCall x result = IsScheduleCall IsPlanned x result

-- The word `run`: the schedule is that of a history that a run may take.
abbrev pub IsRunCall : Streams → ℕ → Type 0
IsRunCall x result = IsScheduleCall IsTaken x result

-- The status is that of a schedule that was written: then the schedule of a legal history of the scenario that was read was.
abbrev pub WritesLegalSchedule : Streams → ℕ → Type 0
WritesLegalSchedule x result = IsOneOf (0 ∷ 4 ∷ []) result → HasLegalSchedule x.before x.now x.had x.has

-- The word `check`: what each status says (`says`). Behind a text of a scenario a schedule of a finished history gets 0 and all else 7, and without such a text comes 2, unless the source or the sink failed or memory ran out (`schedules`, `faults`); without such a fault only want of memory comes in their place (`complete`, `complete_refusal`).
pub record IsCheckCall (x : Streams) (result : ℕ) : Type 0 where
  pub says : SaysOfCheck x.before x.now x.had x.has result
  pub schedules : ChecksSchedule x.before (5 ∷ 6 ∷ 3 ∷ []) result
  pub faults : RefusesParted x.before (5 ∷ 6 ∷ 3 ∷ []) result
  pub complete : AreFaultless x → ChecksSchedule x.before (3 ∷ []) result
  pub complete_refusal : AreFaultless x → RefusesParted x.before (3 ∷ []) result
