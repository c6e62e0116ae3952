-- What has been read so far, as the code has it, and what taking a line does to it.
use Rattle.std.specs.Prelude.{ℕ, ◌≡◌, ◌≤◌, Result, Ok, Err, length}
use Rattle.rk_model.specs.declared.limits.TheConstants.{MOST_CLUSTERS, MOST_PROCESSORS, MOST_LINES}
use Rattle.rk_model.specs.declared.scenario.ScenarioWhy.{ScenarioWhy}
use Rattle.rk_model.specs.Text.Scenarios.{cpus_in}
use Rattle.rk_model.specs.Text.Reading as reading
use Rattle.rk_scenario.specs.declared.errors.LineError.{LineError}
use Rattle.rk_scenario.specs.declared.errors.LineError.TheVariants as errors
use Rattle.rk_scenario.specs.declared.draft.Draft.{Draft}
use Rattle.rk_scenario.specs.declared.draft.Phase.{Phase}
use Rattle.rk_scenario.specs.declared.draft.Phase.TheVariants.{Start, Headed, Clustered, Timed, Limited, InBody, InInits}

-- the same phase among the definitions
abbrev pub phase_of : Phase → reading.Phase
phase_of Start = reading.Start
phase_of Headed = reading.Headed
phase_of Clustered = reading.Clustered
phase_of Timed = reading.Timed
phase_of Limited = reading.Limited
phase_of InBody = reading.InBody
phase_of InInits = reading.InInits

-- the same draft among the definitions
abbrev pub draft_of : Draft → reading.Draft
draft_of d = record { phase = phase_of d.phase; scenario = d.scenario; body = d.body }

-- A line was taken, and gave the new draft; or it wasn't, for what is wrong with it or for want of memory.
abbrev pub Follows : Result (Unit {0}) LineError → Result reading.Draft ScenarioWhy → Draft → Type 0
Follows (Ok x) step new = step ≡ Ok (draft_of new)
Follows (Err (errors.Fault why)) step new = step ≡ Err why
Follows (Err errors.Memory) step new = Unit {0}

-- There are at most four clusters with at most 8 processors in all, and at most so many whole bodies; the open one has at most 1,000 lines.
pub record HasAtMost (most : ℕ) (d : Draft) : Type 0 where
  pub clusters : length d.scenario.clusters ≤ MOST_CLUSTERS
  pub cpus : cpus_in d.scenario.clusters ≤ MOST_PROCESSORS
  pub bodies : length d.scenario.bodies ≤ most
  pub lines : length d.body.lines ≤ MOST_LINES

-- how many whole bodies there are at most at a phase: an open one has its place
abbrev pub most_bodies : Phase → ℕ
most_bodies Start = 32
most_bodies Headed = 32
most_bodies Clustered = 32
most_bodies Timed = 32
most_bodies Limited = 32
most_bodies InBody = 31
most_bodies InInits = 32

-- The numbers of clusters, processors, bodies and lines are small.
abbrev pub IsSmall : Draft → Type 0
IsSmall d = HasAtMost (most_bodies d.phase) d
