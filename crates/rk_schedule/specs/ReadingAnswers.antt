-- What reading a schedule answers, against the verdict of the machine.
use Rattle.std.specs.Prelude.{ℕ, ◌≡◌, List, Option, Some, None, Result, Ok, Err}
use Rattle.rk_model.specs.declared.scenario.Scenario.{Scenario}
use Rattle.rk_model.specs.declared.entry.Entry.{Entry}
use Rattle.rk_model.specs.Recorded.{Recorded}
use Rattle.rk_model.specs.declared.memory.NoMemory.{NoMemory}
use Rattle.rk_model.specs.State.{Plain}
use Rattle.rk_schedule.specs.declared.errors.ScheduleError.{ScheduleError}
use Rattle.rk_schedule.specs.declared.errors.ScheduleError.TheVariants.{Refused, Memory}
use Rattle.rk_schedule.specs.declared.reading.Taken.{Taken}
use Rattle.rk_schedule.specs.declared.reading.Taken.TheVariants as told
use Rattle.rk_model.specs.Text.ScheduleFaults.{ScheduleFault, IsFaultOf}
use Rattle.rk_schedule.specs.Reading.{misplaced, Step, Takes, Closes, Stops, Verdict}

-- A line is refused as one that can't come where it stands, unless memory was wanting.
abbrev pub IsMisplaced : ScheduleError → ℕ → ℕ → List ℕ → Type 0
IsMisplaced (Refused l why) cpus number line = (l ≡ number) × (why ≡ misplaced cpus line)
IsMisplaced Memory cpus number line = Unit {0}

-- Nothing is wrong, or this is, unless memory was wanting.
abbrev pub EndingAnswers : Result (Unit {0}) ScheduleError → Option ScheduleFault → Type 0
EndingAnswers (Ok x) fault = fault ≡ None
EndingAnswers (Err (Refused line why)) fault = fault ≡ Some (record { line = line; why = why })
EndingAnswers (Err Memory) fault = Unit {0}

-- The line came to this, with this state after it, unless memory was wanting.
abbrev pub StepAnswers : Result Taken NoMemory → Step → Plain → Type 0
StepAnswers (Ok (told.Takes x)) step new = step ≡ Takes (record { entry = x; next = new })
StepAnswers (Ok (told.Closes x)) step new = step ≡ Closes (record { entry = x; next = new })
StepAnswers (Ok (told.Stops why)) step new = step ≡ Stops why
StepAnswers (Err none) step new = Unit {0}

-- The entries are the history that was read, or the bytes were refused, unless memory was wanting.
abbrev pub Answers : Result (Unit {0}) ScheduleError → List Entry → Verdict → Type 0
Answers (Ok x) xs verdict = verdict ≡ Ok xs
Answers (Err (Refused line why)) xs verdict = verdict ≡ Err (record { line = line; why = why })
Answers (Err Memory) xs verdict = Unit {0}

-- the same where a history is returned
abbrev pub Reads : Result Recorded ScheduleError → Verdict → Type 0
Reads (Ok h) verdict = verdict ≡ Ok h.entries
Reads (Err (Refused line why)) verdict = verdict ≡ Err (record { line = line; why = why })
Reads (Err Memory) verdict = Unit {0}

-- The bytes are refused for their fault, or memory was wanting.
abbrev pub IsRefusal : Scenario → List ℕ → ScheduleError → Type 0
IsRefusal s bytes (Refused line why) = IsFaultOf s bytes (record { line = line; why = why })
IsRefusal s bytes Memory = Unit {0}

-- This history was read, or memory was wanting.
abbrev pub Gives : Result Recorded ScheduleError → List Entry → Type 0
Gives (Ok h) xs = h.entries ≡ xs
Gives (Err (Refused line why)) xs = ⊥
Gives (Err Memory) xs = Unit {0}

-- The bytes were refused for this fault, or memory was wanting.
abbrev pub Refuses : Result Recorded ScheduleError → ScheduleFault → Type 0
Refuses (Ok h) fault = ⊥
Refuses (Err (Refused line why)) fault = (line ≡ fault.line) × (why ≡ fault.why)
Refuses (Err Memory) fault = Unit {0}
