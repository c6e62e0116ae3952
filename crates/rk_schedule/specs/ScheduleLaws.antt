-- What holds of schedules and their faults.
use Rattle.std.specs.Prelude.{ℕ, ◌≡◌, List, true, Option}
use Rattle.std.specs.List.{AllByRecursion}
use Rattle.rk_model.specs.declared.scenario.Scenario.{Scenario}
use Rattle.rk_model.specs.declared.entry.Entry.{Entry}
use Rattle.rk_model.specs.Histories.{Legal}
use Rattle.rk_model.specs.Text.Scenarios.{IsScenario, cpus_in}
use Rattle.rk_model.specs.Text.Schedules.{schedule_lines, schedule_text}
use Rattle.rk_model.specs.Text.ScheduleForms.{has_form}
use Rattle.rk_model.specs.Text.ScheduleFaults.{ScheduleFault, ScheduleFaultIs}

-- A schedule is that of one legal history.
abbrev pub OneHistory : Type 0
OneHistory = (s : Scenario) (xs ys : List Entry) → IsScenario s → Legal s xs → Legal s ys → schedule_text s xs ≡ schedule_text s ys → xs ≡ ys

-- For each scenario and all bytes there is one answer to what is wrong with them: nothing, where they are the schedule of a finished history, and only there; or else one fault.
abbrev pub OneAnswer : Type 0
OneAnswer = (s : Scenario) (bytes : List ℕ) → IsScenario s → (fault : Option ScheduleFault) × ScheduleFaultIs s bytes fault × ((other : Option ScheduleFault) → ScheduleFaultIs s bytes other → other ≡ fault)

-- Each line of the schedule of a legal history has a form of lines: the forms refuse no line that a schedule may have.
abbrev pub EachLineHasAForm : Type 0
EachLineHasAForm = (s : Scenario) (xs : List Entry) → IsScenario s → Legal s xs → AllByRecursion (λ line. has_form (cpus_in s.clusters) line ≡ true) (schedule_lines s xs)
