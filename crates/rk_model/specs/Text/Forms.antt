-- The forms of the lines of a body, a row for each: its first word, its operands, and the op that their values make.
use Rattle.std.specs.Prelude.{ℕ, Bool, List, [], ◌∷◌, Option, Some, None, codes, if◌then◌else◌}
use Rattle.std.specs.Str.{bytes_eq}
use Rattle.rk_model.specs.declared.limits.TheConstants.{MOST_TICKS}
use Rattle.rk_model.specs.declared.forms.TheConstants.{FORMS}
use Rattle.rk_model.specs.declared.numbers.Name.{Name as NameOf}
use Rattle.rk_model.specs.declared.scenario.Target.{Target}
use Rattle.rk_model.specs.declared.scenario.Wish.{Wish as WishOf}
use Rattle.rk_model.specs.declared.semaphore.Protocol.{Protocol as ProtocolOf}
use Rattle.rk_model.specs.declared.semaphore.SemKind.{SemKind}
use Rattle.rk_model.specs.declared.waiting.Order.{Order as OrderOf}
use Rattle.rk_model.specs.declared.scenario.Op.{Op}
use Rattle.rk_model.specs.declared.scenario.Op.TheVariants.{Work, Goto, TaskCreate, TaskIdent, TaskStart, TaskSuspend, TaskResume, TaskSetPriority, TaskGetPriority, TaskDelete, TaskWakeAfter, EventSend, EventReceive, SemCreate, SemIdent, SemObtain, SemRelease, SemFlush, SemDelete, SemSetPriority, BarrierCreate, BarrierIdent, BarrierWait, BarrierRelease, BarrierDelete, PartCreate, PartIdent, PartGet, PartReturn, PartDelete, PeriodCreate, PeriodIdent, PeriodPeriod, PeriodCancel, PeriodDelete}

-- What a word behind the first stands for.
pub data Operand : Type 0 where
  -- a number from least to most
  Number : ℕ → ℕ → Operand
  -- a name of an object
  Name : Operand
  -- a name of an object, or `-` for the name 0
  Name0 : Operand
  -- a variable
  Var : Operand
  -- an id
  Id : Operand
  -- an address: a variable or a number
  Address : Operand
  -- the number of a cluster of the scenario
  Cluster : Operand
  -- a body's name
  B : Operand
  -- the number of an earlier line of the body that isn't a goto
  Earlier : Operand
  -- which events of a set: `any` or `all`
  Mode : Operand
  -- which kind of barrier: `manual` or `auto`
  Kind : Operand
  -- how long to wait: `nowait`, or a number of ticks
  Wish : Operand
  -- the kind of a semaphore: `counting`, `simple` or `binary`
  SemaphoreKind : Operand
  -- the order in which the queue of a semaphore serves: `fifo` or `priority`
  Order : Operand
  -- the protocol of a semaphore: `none`, `inherit` or `ceiling`; `mrsp` is no word of the language so far
  Protocol : Operand

-- any number of 32 bits
abbrev pub Any : Operand
Any = Number 0 4294967295

-- what the word of an operand stands for
abbrev pub Value : Operand → Type 0
Value (Number least most) = ℕ
Value Name = NameOf
Value Name0 = NameOf
Value Var = ℕ
Value Id = Target
Value Address = Target
Value Cluster = ℕ
Value B = ℕ
Value Earlier = ℕ
Value Mode = Bool
Value Kind = Bool
Value Wish = WishOf
Value SemaphoreKind = SemKind
Value Order = OrderOf
Value Protocol = ProtocolOf

-- what makes an op of the values of operands
abbrev pub Makes : List Operand → Type 0
Makes [] = Op
Makes (operand ∷ operands) = Value operand → Makes operands

-- The form of a line: its first word, its operands, and the op that their values make.
pub data Form : Type 0 where
  Row : List ℕ → (operands : List Operand) → Makes operands → Form

-- the form of the line of each op
abbrev pub form_of : Op → Form
form_of (Work n) = Row (codes "work") (Number 1 MOST_TICKS ∷ []) Work
form_of (Goto target) = Row (codes "goto") (Earlier ∷ []) Goto
form_of (TaskCreate name prio var) = Row (codes "task.create") (Name0 ∷ Any ∷ Var ∷ []) TaskCreate
form_of (TaskIdent name var) = Row (codes "task.ident") (Name ∷ Var ∷ []) TaskIdent
form_of (TaskStart id body) = Row (codes "task.start") (Id ∷ B ∷ []) TaskStart
form_of (TaskSuspend id) = Row (codes "task.suspend") (Id ∷ []) TaskSuspend
form_of (TaskResume id) = Row (codes "task.resume") (Id ∷ []) TaskResume
form_of (TaskSetPriority id prio var) = Row (codes "task.set_priority") (Id ∷ Any ∷ Var ∷ []) TaskSetPriority
form_of (TaskGetPriority id cluster var) = Row (codes "task.get_priority") (Id ∷ Cluster ∷ Var ∷ []) TaskGetPriority
form_of (TaskDelete id) = Row (codes "task.delete") (Id ∷ []) TaskDelete
form_of (TaskWakeAfter n) = Row (codes "task.wake_after") (Any ∷ []) TaskWakeAfter
form_of (EventSend id set) = Row (codes "event.send") (Id ∷ Any ∷ []) EventSend
form_of (EventReceive set all wish var) = Row (codes "event.receive") (Any ∷ Mode ∷ Wish ∷ Var ∷ []) EventReceive
form_of (SemCreate name count kind order _ ceiling var) = Row (codes "sem.create") (Name0 ∷ Any ∷ SemaphoreKind ∷ Order ∷ Protocol ∷ Any ∷ Var ∷ []) SemCreate
form_of (SemIdent name var) = Row (codes "sem.ident") (Name ∷ Var ∷ []) SemIdent
form_of (SemObtain id wish) = Row (codes "sem.obtain") (Id ∷ Wish ∷ []) SemObtain
form_of (SemRelease id) = Row (codes "sem.release") (Id ∷ []) SemRelease
form_of (SemFlush id) = Row (codes "sem.flush") (Id ∷ []) SemFlush
form_of (SemDelete id) = Row (codes "sem.delete") (Id ∷ []) SemDelete
form_of (SemSetPriority id cluster prio var) = Row (codes "sem.set_priority") (Id ∷ Cluster ∷ Any ∷ Var ∷ []) SemSetPriority
form_of (BarrierCreate name automatic most var) = Row (codes "barrier.create") (Name0 ∷ Kind ∷ Any ∷ Var ∷ []) BarrierCreate
form_of (BarrierIdent name var) = Row (codes "barrier.ident") (Name ∷ Var ∷ []) BarrierIdent
form_of (BarrierWait id ticks) = Row (codes "barrier.wait") (Id ∷ Any ∷ []) BarrierWait
form_of (BarrierRelease id var) = Row (codes "barrier.release") (Id ∷ Var ∷ []) BarrierRelease
form_of (BarrierDelete id) = Row (codes "barrier.delete") (Id ∷ []) BarrierDelete
form_of (PartCreate name start length size var) = Row (codes "part.create") (Name0 ∷ Any ∷ Any ∷ Any ∷ Var ∷ []) PartCreate
form_of (PartIdent name var) = Row (codes "part.ident") (Name ∷ Var ∷ []) PartIdent
form_of (PartGet id var) = Row (codes "part.get") (Id ∷ Var ∷ []) PartGet
form_of (PartReturn id address) = Row (codes "part.return") (Id ∷ Address ∷ []) PartReturn
form_of (PartDelete id) = Row (codes "part.delete") (Id ∷ []) PartDelete
form_of (PeriodCreate name var) = Row (codes "period.create") (Name0 ∷ Var ∷ []) PeriodCreate
form_of (PeriodIdent name var) = Row (codes "period.ident") (Name ∷ Var ∷ []) PeriodIdent
form_of (PeriodPeriod id length) = Row (codes "period.period") (Id ∷ Any ∷ []) PeriodPeriod
form_of (PeriodCancel id) = Row (codes "period.cancel") (Id ∷ []) PeriodCancel
form_of (PeriodDelete id) = Row (codes "period.delete") (Id ∷ []) PeriodDelete

-- the first word of a form
abbrev pub word_in : Form → List ℕ
word_in (Row word operands made) = word

-- the first word of an op's line
abbrev pub word_of : Op → List ℕ
word_of op = word_in (form_of op)

-- the first of these ops whose line has the first word
abbrev pub form_from : List Op → List ℕ → Option Op
form_from [] word = None
form_from (op ∷ ops) word = if bytes_eq (word_of op) word then Some op else form_from ops word

-- an op of the form that has the first word
unfoldable pub form_in : List ℕ → Option Op
form_in word = form_from FORMS.now word
