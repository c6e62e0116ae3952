-- The machine that reads a schedule line by line, while it steps the kernel.
use Rattle.std.specs.Prelude.{ℕ, ◌+◌, ◌-◌, List, [], ◌∷◌, ◌++◌, true, ◌&&◌, not, Option, Some, None, Result, Ok, Err, nat_lt, nat_le, length, ◌==◌, if◌then◌else◌}
use Rattle.std.specs.List.{starts_with}
use Rattle.std.specs.Str.{bytes_eq}
use Rattle.rk_model.specs.declared.limits.TheConstants.{CLOCK}
use Rattle.rk_model.specs.declared.scenario.Scenario.{Scenario}
use Rattle.rk_model.specs.declared.entry.Entry.{Entry}
use Rattle.rk_model.specs.declared.schedule.ScheduleWhy.{ScheduleWhy}
use Rattle.rk_model.specs.declared.schedule.ScheduleWhy.TheVariants.{Form, Status, Order, Unfinished}
use Rattle.rk_model.specs.State.{Plain}
use Rattle.rk_model.specs.Steps.{Act, act}
use Rattle.rk_model.specs.Histories.{is_end}
use Rattle.rk_model.specs.Text.Schedules.{call_text, directive_line, tick_line, period_lines_from, header_line, final_line}
use Rattle.rk_schedule.specs.Stored.{stored_in}
use Rattle.rk_model.specs.Text.ScheduleForms.{has_form}
use Rattle.rk_model.specs.Text.ScheduleFaults.{ScheduleFault}
use Rattle.rk_model.specs.Text.Words.{whole_lines, loose_end}

-- The seat that a line names: the processor of a directive's line, or the clock of a tick's.
unfoldable pub named_seat : List ℕ → Option ℕ
named_seat [] = None
named_seat (a ∷ []) = None
named_seat (a ∷ b ∷ bytes) =
    if (a == 112) && nat_le 48 b && nat_le b 55 then Some (b - 48)
    else (if a == 116 then Some CLOCK else None)

-- what is wrong with a line that can't come where it stands
abbrev pub misplaced : ℕ → List ℕ → ScheduleWhy
misplaced cpus line = if has_form cpus line then Order else Form

-- what is wrong with a line whose processor makes another entry next
abbrev pub mistaken : Scenario → ℕ → Entry → List ℕ → ScheduleWhy
mistaken s cpus x line =
    if not (has_form cpus line) then Form
    else if starts_with ◌==◌ line (call_text s x ++ 32 ∷ []) then Status
    else Order

-- What a line comes to.
pub data Step : Type 0 where
  -- it is that of what a seat does
  Takes : Act → Step
  -- the run ends in front of it
  Closes : Act → Step
  -- it is wrong
  Stops : ScheduleWhy → Step

-- what comes of a line that names a processor, which does this
abbrev pub called : Scenario → ℕ → List ℕ → Option Act → Step
called s cpus line None = Stops (misplaced cpus line)
called s cpus line (Some a) = if bytes_eq line (directive_line s a.entry) then Takes a else Stops (mistaken s cpus a.entry line)

-- what comes of the line of a tick, where the clock does this
abbrev pub ticked : ℕ → List ℕ → List ℕ → Option Act → Step
ticked cpus line tick None = Stops (misplaced cpus line)
ticked cpus line tick (Some a) = if not (is_end a.entry.what) && bytes_eq line tick then Takes a else Stops (misplaced cpus line)

-- what comes of any other line, where the clock does this
abbrev pub closed : ℕ → List ℕ → Option Act → Step
closed cpus line None = Stops (misplaced cpus line)
closed cpus line (Some a) = if is_end a.entry.what then Closes a else Stops (misplaced cpus line)

-- what comes of a line that names this seat, in a state
unfoldable pub step_by : Scenario → ℕ → Plain → List ℕ → Option ℕ → Step
step_by s cpus k line (Some q) = if q == CLOCK then ticked cpus line (tick_line k) (act k CLOCK) else called s cpus line (act k q)
step_by s cpus k line None = closed cpus line (act k CLOCK)

-- what comes of a line behind so many entries
abbrev pub step_of : Scenario → ℕ → Plain → ℕ → List ℕ → Step
step_of s cpus k count line = if nat_lt count s.limit then step_by s cpus k line (named_seat line) else Stops (misplaced cpus line)

-- the history that was read, or the first fault
abbrev pub Verdict : Type 0
Verdict = Result (List Entry) ScheduleFault

abbrev pub fault_at : ℕ → ScheduleWhy → Verdict
fault_at n why = Err (record { line = n; why = why })

abbrev pub stops_at : ℕ → ScheduleWhy → Option ScheduleFault
stops_at n why = Some (record { line = n; why = why })

-- what is wrong behind a whole schedule, where no line follows
abbrev pub loose_fault : ℕ → ℕ → List ℕ → Option ScheduleFault
loose_fault cpus n [] = None
loose_fault cpus n (b ∷ loose) = stops_at n (misplaced cpus (b ∷ loose))

-- What is wrong with lines, of which the first has the number n, and with the bytes behind them, where these lines are wanted.
abbrev pub ending_fault : ℕ → ℕ → List (List ℕ) → List (List ℕ) → List ℕ → Option ScheduleFault
ending_fault cpus n [] [] loose = loose_fault cpus n loose
ending_fault cpus n [] (line ∷ lines) loose = stops_at n (misplaced cpus line)
ending_fault cpus n (wanted ∷ more) [] loose = stops_at n Unfinished
ending_fault cpus n (wanted ∷ more) (line ∷ lines) loose = if bytes_eq line wanted then ending_fault cpus (n + 1) more lines loose else stops_at n (misplaced cpus line)

-- the verdict where this is wrong behind the entries of a history, if anything is
abbrev pub verdict_of : List Entry → Option ScheduleFault → Verdict
verdict_of xs None = Ok xs
verdict_of xs (Some fault) = Err fault

-- the lines of the ending, where the run ends in a state
abbrev pub ending_lines : Scenario → Plain → List (List ℕ)
ending_lines s k = period_lines_from k (stored_in k) 1 ++ final_line s true ∷ []

-- the verdict where a line comes to this
abbrev pub verdict_by : Step → ℕ → (Act → Verdict) → (Act → Verdict) → Verdict
verdict_by (Takes a) n takes closes = takes a
verdict_by (Closes a) n takes closes = closes a
verdict_by (Stops why) n takes closes = fault_at n why

-- The verdict on lines, of which the first has the number n, and on the bytes behind them, in a state to which these entries led.
abbrev pub entries_from : Scenario → ℕ → Plain → List Entry → ℕ → List (List ℕ) → List ℕ → Verdict
entries_from s cpus k xs n [] loose = fault_at n Unfinished
entries_from s cpus k xs n (line ∷ lines) loose =
    verdict_by (step_of s cpus k (length xs) line) n
    (λ a. entries_from s cpus a.next (xs ++ a.entry ∷ []) (n + 1) lines loose)
    (λ a. verdict_of (xs ++ a.entry ∷ []) (ending_fault cpus n (ending_lines s a.next) (line ∷ lines) loose))

-- the verdict on all lines and on the bytes behind them
abbrev pub verdict_on : Scenario → ℕ → Plain → List (List ℕ) → List ℕ → Verdict
verdict_on s cpus k [] loose = fault_at 1 Unfinished
verdict_on s cpus k (line ∷ lines) loose = if bytes_eq line header_line then entries_from s cpus k [] 2 lines loose else fault_at 1 (misplaced cpus line)

-- the verdict on bytes, in a state before all entries
abbrev pub verdict : Scenario → ℕ → Plain → List ℕ → Verdict
verdict s cpus k bytes = verdict_on s cpus k (whole_lines bytes) (loose_end bytes)
