-- The texts that are written: the usage text, refusals and schedules.
use Rattle.std.specs.Prelude.{ℕ, List, [], ◌∷◌, ◌++◌, codes}
use Rattle.std.specs.Fmt.{decimal}
use Rattle.rk_model.specs.declared.scenario.Scenario.{Scenario}
use Rattle.rk_model.specs.declared.scenario.ScenarioWhy.{ScenarioWhy}
use Rattle.rk_model.specs.declared.scenario.ScenarioWhy.TheVariants.{Header, Word, Number, Range, UnknownName, Repeated, TooMany, MissingEnd, NotAscii, TooLarge}
use Rattle.rk_model.specs.declared.schedule.ScheduleWhy.{ScheduleWhy}
use Rattle.rk_model.specs.declared.schedule.ScheduleWhy.TheVariants.{Form, Status, Order, Unfinished}
use Rattle.rk_model.specs.Text.ScheduleFaults.{ScheduleFault}
use Rattle.rk_model.specs.declared.entry.Entry.{Entry}
use Rattle.rk_model.specs.Text.Reading.{Fault}
use Rattle.rk_model.specs.Histories.{lowest}

-- how the program is called
unfoldable pub usage_text : List ℕ
usage_text = codes "usage: rtems_smp run | plan | check | big N" ++ 10 ∷ []

-- the word for what is wrong with a text
unfoldable pub why_text : ScenarioWhy → List ℕ
why_text Header = codes "Header"
why_text TooLarge = codes "TooLarge"
why_text Word = codes "Word"
why_text Number = codes "Number"
why_text Range = codes "Range"
why_text UnknownName = codes "UnknownName"
why_text Repeated = codes "Repeated"
why_text TooMany = codes "TooMany"
why_text MissingEnd = codes "MissingEnd"
why_text NotAscii = codes "NotAscii"

-- the refusal of a text for its first fault: the line, and what is wrong with it
unfoldable pub refusal_text : Fault → List ℕ
refusal_text fault = codes "scenario line " ++ decimal fault.line ++ codes ": " ++ why_text fault.why ++ 10 ∷ []

-- what is written where nothing is wrong with a schedule
unfoldable pub ok_text : List ℕ
ok_text = codes "ok" ++ 10 ∷ []

-- the word for what is wrong with a schedule
unfoldable pub schedule_why_text : ScheduleWhy → List ℕ
schedule_why_text Form = codes "Form"
schedule_why_text Status = codes "Status"
schedule_why_text Order = codes "Order"
schedule_why_text Unfinished = codes "Unfinished"

-- the refusal of a schedule for its fault: the line, and what is wrong with it
unfoldable pub schedule_refusal_text : ScheduleFault → List ℕ
schedule_refusal_text fault = codes "schedule line " ++ decimal fault.line ++ codes ": " ++ schedule_why_text fault.why ++ 10 ∷ []

-- the history of a scenario that is planned: always the lowest-numbered processor that has a directive acts, else the clock, up to End or to the scenario's limit
abbrev pub planned : Scenario → List Entry
planned s = lowest s s.limit
