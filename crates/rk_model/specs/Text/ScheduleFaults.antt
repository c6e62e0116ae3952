-- What is wrong with bytes that are to be the schedule of a history of a scenario.
use Rattle.std.specs.Prelude.{ℕ, ◌+◌, ◌≡◌, ◌≢◌, ◌≤◌, ◌<◌, ◌⊎◌, List, [], ◌∷◌, ◌++◌, true, false, Option, Some, None, length}
use Rattle.rk_model.specs.declared.limits.TheConstants.{MOST_PROCESSORS}
use Rattle.rk_model.specs.declared.scenario.Scenario.{Scenario}
use Rattle.rk_model.specs.declared.entry.Entry.{Entry}
use Rattle.rk_model.specs.declared.schedule.ScheduleWhy.{ScheduleWhy}
use Rattle.rk_model.specs.declared.schedule.ScheduleWhy.TheVariants.{Form, Status, Order, Unfinished}
use Rattle.rk_model.specs.Steps.{Act, act}
use Rattle.rk_model.specs.Histories.{Legal, after, ends}
use Rattle.rk_model.specs.Text.Words.{whole_lines, loose_end}
use Rattle.rk_model.specs.Text.Scenarios.{cpus_in}
use Rattle.rk_model.specs.Text.Schedules.{call_text, history_lines, schedule_lines, schedule_text}
use Rattle.rk_model.specs.Text.ScheduleForms.{has_form}

-- ---- the lines of a schedule

-- Lines are the first ones of these.
abbrev pub Begin : List (List ℕ) → List (List ℕ) → Type 0
Begin lines all = (more : List (List ℕ)) × (all ≡ lines ++ more)

-- ---- good lines

-- A history is legal, and has at most as many entries as the scenario allows.
pub record IsAllowed (s : Scenario) (xs : List Entry) : Type 0 where
  pub legal : Legal s xs
  pub few : length xs ≤ s.limit

-- The same, and it ends with End.
pub record IsFinished (s : Scenario) (xs : List Entry) : Type 0 where
  pub allowed : IsAllowed s xs
  pub end : ends xs ≡ true

-- The bytes are the schedule of this history, which is finished.
pub record IsScheduleOf (s : Scenario) (bytes : List ℕ) (xs : List Entry) : Type 0 where
  pub finished : IsFinished s xs
  pub text : bytes ≡ schedule_text s xs

-- The bytes are the schedule of a finished history.
abbrev pub IsSchedule : Scenario → List ℕ → Type 0
IsSchedule s bytes = (xs : List Entry) × IsScheduleOf s bytes xs

-- The lines are all those of the schedule of a finished history.
abbrev pub AreWhole : Scenario → List (List ℕ) → Type 0
AreWhole s lines = (xs : List Entry) × IsFinished s xs × (lines ≡ schedule_lines s xs)

-- Lines are good in two cases: they are the first ones of an allowed history, without its ending, or of the schedule of a finished one.
abbrev pub AreGood : Scenario → List (List ℕ) → Type 0
AreGood s lines = ((xs : List Entry) × IsAllowed s xs × Begin lines (history_lines s xs)) ⊎ ((xs : List Entry) × IsFinished s xs × Begin lines (schedule_lines s xs))

-- ---- the first fault

-- A fault: the number of its line, from 1, and what is wrong there.
pub record ScheduleFault : Type 0 where
  pub line : ℕ
  pub why : ScheduleWhy

-- A line differs only in its answer: in front of it stand the first line and those of fewer entries than the scenario allows, and up to the directive's word it is the line of the entry that its processor makes next.
pub record DiffersInAnswer (s : Scenario) (before : List (List ℕ)) (line : List ℕ) : Type 0 where
  pub history : List Entry
  pub cpu : ℕ
  pub next : Act
  pub answer : List ℕ
  pub legal : Legal s history
  pub few : length history < s.limit
  pub before_is : before ≡ history_lines s history
  pub processor : cpu < MOST_PROCESSORS
  pub acts : act (after s history) cpu ≡ Some next
  pub line_is : line ≡ call_text s next.entry ++ 32 ∷ answer

-- What is wrong with a line behind these: it is of no form; else it differs only in its answer; else it can't come there.
abbrev pub IsJudged : Scenario → List (List ℕ) → List ℕ → ScheduleWhy → Type 0
IsJudged s before line Form = has_form (cpus_in s.clusters) line ≡ false
IsJudged s before line Status = (has_form (cpus_in s.clusters) line ≡ true) × DiffersInAnswer s before line
IsJudged s before line Order = (has_form (cpus_in s.clusters) line ≡ true) × ¬ DiffersInAnswer s before line
IsJudged s before line Unfinished = ⊥

-- Behind these lines the bytes have this one, and with it they aren't good.
abbrev pub HasBadLine : Scenario → List ℕ → List (List ℕ) → List ℕ → Type 0
HasBadLine s bytes before line = Begin (before ++ line ∷ []) (whole_lines bytes) × ¬ AreGood s (before ++ line ∷ [])

-- These lines are all, and are a whole schedule; behind them stand other bytes, which count as a line though they lack a line feed.
pub record HasMore (s : Scenario) (bytes : List ℕ) (before : List (List ℕ)) (line : List ℕ) : Type 0 where
  pub lines_are : whole_lines bytes ≡ before
  pub whole : AreWhole s before
  pub loose : loose_end bytes ≡ line
  pub some : line ≢ []

-- These lines are all, and aren't a whole schedule.
abbrev pub LacksLine : Scenario → List ℕ → List (List ℕ) → Type 0
LacksLine s bytes before = (whole_lines bytes ≡ before) × ¬ AreWhole s before

-- what is wrong behind good lines: a line is missing, or the next one is judged
abbrev pub IsWrong : Scenario → List ℕ → List (List ℕ) → ScheduleWhy → Type 0
IsWrong s bytes before why =
    (LacksLine s bytes before × (why ≡ Unfinished))
    ⊎ ((line : List ℕ) × (HasBadLine s bytes before line ⊎ HasMore s bytes before line) × IsJudged s before line why)

-- The fault of bytes: the lines in front of its line are good, and it isn't there, or isn't good with them.
pub record IsFaultOf (s : Scenario) (bytes : List ℕ) (fault : ScheduleFault) : Type 0 where
  pub before : List (List ℕ)
  pub number : fault.line ≡ length before + 1
  pub good : AreGood s before
  pub wrong : IsWrong s bytes before fault.why

-- What is wrong with bytes, if anything is: nothing where they are the schedule of a finished history, and else their fault.
abbrev pub ScheduleFaultIs : Scenario → List ℕ → Option ScheduleFault → Type 0
ScheduleFaultIs s bytes None = IsSchedule s bytes
ScheduleFaultIs s bytes (Some fault) = IsFaultOf s bytes fault
