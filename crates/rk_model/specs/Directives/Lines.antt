-- What the lines of bodies are, by what stands there.
use Rattle.std.specs.Prelude.{ℕ, Bool, true, false, Option, Some, None}
use Rattle.rk_model.specs.declared.scenario.Op.{Op}
use Rattle.rk_model.specs.declared.scenario.Op.TheVariants.{Work, Goto, TaskCreate, TaskIdent, TaskSetPriority, TaskGetPriority, EventReceive, SemCreate, SemIdent, SemSetPriority, BarrierCreate, BarrierIdent, BarrierRelease, PartCreate, PartIdent, PartGet, PeriodCreate, PeriodIdent}

-- What a line of a body is to a thread that arrives there: it computes for so many ticks, it is led to another line, or it acts by a directive.
pub data Kind : Type 0 where
  Computes : ℕ → Kind
  Leads : ℕ → Kind
  Acts : Kind

-- what a line is: a directive, but for work and a goto
abbrev pub kind_of : Op → Kind
kind_of (Work n) = Computes n
kind_of (Goto target) = Leads target
kind_of op = Acts

-- the same of what stands at a line or behind the last, where the exit is
abbrev pub kind_at : Option Op → Kind
kind_at None = Acts
kind_at (Some op) = kind_of op

-- the line at which a thread is that would arrive at a line of this kind
abbrev pub landed_by : Kind → ℕ → ℕ
landed_by (Computes n) line = line
landed_by (Leads target) line = target
landed_by Acts line = line

-- the work that a thread has on arriving at a line of this kind
abbrev pub work_of : Kind → ℕ
work_of (Computes n) = n
work_of (Leads target) = 0
work_of Acts = 0

-- whether a thread that is led there goes no further
abbrev pub is_place : Kind → Bool
is_place (Computes n) = true
is_place (Leads target) = false
is_place Acts = true

-- whether there is a directive
abbrev pub is_act : Kind → Bool
is_act (Computes n) = false
is_act (Leads target) = false
is_act Acts = true

-- The variable of the caller in which a line stores its out number; none where it stores none.
abbrev pub result_var : Option Op → Option ℕ
result_var (Some (TaskCreate name prio var)) = Some var
result_var (Some (TaskIdent name var)) = Some var
result_var (Some (TaskSetPriority id prio var)) = Some var
result_var (Some (TaskGetPriority id cluster var)) = Some var
result_var (Some (EventReceive set all wish var)) = Some var
result_var (Some (SemCreate name count kind order _ ceiling var)) = Some var
result_var (Some (SemIdent name var)) = Some var
result_var (Some (SemSetPriority id cluster prio var)) = Some var
result_var (Some (BarrierCreate name automatic most var)) = Some var
result_var (Some (BarrierIdent name var)) = Some var
result_var (Some (BarrierRelease id var)) = Some var
result_var (Some (PartCreate name start length size var)) = Some var
result_var (Some (PartIdent name var)) = Some var
result_var (Some (PartGet id var)) = Some var
result_var (Some (PeriodCreate name var)) = Some var
result_var (Some (PeriodIdent name var)) = Some var
result_var o = None
