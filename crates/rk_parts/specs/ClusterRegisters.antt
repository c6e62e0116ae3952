-- The registers by which clusters settle.
use Rattle.std.specs.Prelude.{ℕ, List, Bool, Option, Some, None, if◌then◌else◌}
use Rattle.rk_model.specs.declared.settling.Standing.{Standing}
use Rattle.rk_model.specs.declared.settling.Shift.{Shift}
use Rattle.rk_model.specs.declared.settling.Shift.TheVariants as asked
use Rattle.rk_model.specs.Scheduling.Priorities.{nth_standing}
use Rattle.rk_model.specs.Scheduling.Settling.{belongs, shifts}
use Rattle.rk_cluster.specs.declared.moves.Change.{Change}
use Rattle.rk_cluster.specs.declared.moves.Change.TheVariants.{Leave, ToEnd, ToFront}

-- the change of a thread with this shift and this priority, which stood in the ready queue before or didn't; none where it stays, since its place has its priority already, and where it neither stood there nor comes there
abbrev pub change_by : Bool → Shift → ℕ → Option Change
change_by stood asked.Stay prio = None
change_by stood asked.Leave prio = if stood then Some Leave else None
change_by stood asked.ToEnd prio = Some (ToEnd prio)
change_by stood asked.ToFront prio = Some (ToFront prio)

-- The register of a cluster: for each thread that shifts there what settling asks of it, with the priority that it has now.
abbrev pub register : List Standing → List Standing → List ℕ → ℕ → ℕ → Option Change
register before now last c t = change_by (belongs c (nth_standing before t)) (shifts before now last c t) (nth_standing now t).prio
