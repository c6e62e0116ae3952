-- Objects by their class, index and name, and what the directives that make and name them share.
use Rattle.std.specs.Prelude.{ℕ, List, [], ◌∷◌, Bool, true, false, Option, Some, None, ◌==◌, if◌then◌else◌}
use Rattle.rk_model.specs.declared.ids.Class.{Class}
use Rattle.rk_model.specs.declared.ids.Class.TheVariants.{Task, Semaphore, Barrier, Partition, Period}
use Rattle.rk_model.specs.declared.state.Life.{Life}
use Rattle.rk_model.specs.declared.state.Life.TheVariants.{Absent, Dormant, Started, Ended}
use Rattle.rk_model.specs.Lists.{nth}
use Rattle.rk_model.specs.declared.status.Status.{Status}
use Rattle.rk_model.specs.declared.status.Status.TheVariants.{InvalidName, TooMany}
use Rattle.rk_model.specs.Ids.{id_of, index_in}
use Rattle.rk_model.specs.Names.{Names, names_of, with_names, taken, given_back, least_named}
use Rattle.rk_model.specs.declared.scenario.Target.{Target}
use Rattle.rk_model.specs.declared.scenario.Target.TheVariants.{Var, Own, Given}
use Rattle.rk_model.specs.State.{Plain, Objects, objects_of, no_thread, no_semaphore, no_barrier, no_partition, no_period}
use Rattle.rk_model.specs.Directives.Outcomes.{Outcome, Refused, done, var_at}

-- the names of the objects of a class
abbrev pub names_in : Plain → Class → Names
names_in k class = names_of class k.table

-- the state in which the objects of a class have other names
abbrev pub put_names : Plain → Class → Names → Plain
put_names k class names = record k { table = with_names class names k.table }

-- created, and not deleted
abbrev pub has_begun : Life → Bool
has_begun Absent = false
has_begun Dormant = true
has_begun Started = true
has_begun Ended = true

-- Whether the object of a class and an index has begun: it was created and not deleted.
abbrev pub begun_in : Objects → Class → ℕ → Bool
begun_in objects Task index = has_begun (nth no_thread objects.threads index).life
begun_in objects Semaphore index = (nth no_semaphore objects.semaphores index).live
begun_in objects Barrier index = (nth no_barrier objects.barriers index).live
begun_in objects Partition index = (nth no_partition objects.partitions index).live
begun_in objects Period index = (nth no_period objects.periods index).live

-- Whether an object of a class and an index lives: whether it has begun. Then, and only then, the index has a name, which is a law.
abbrev pub is_live : Plain → Class → ℕ → Bool
is_live k class index = begun_in (objects_of k) class index

-- an index of a class, if there is one and its object lives
abbrev pub live_one : Plain → Class → Option ℕ → Option ℕ
live_one k class None = None
live_one k class (Some index) = if is_live k class index then Some index else None

-- the index of the live object of a class whose id the bits are; none where they are the id of no live object of that class
abbrev pub object_of : Plain → Class → ℕ → Option ℕ
object_of k class bits = live_one k class (index_in class bits)

-- the bits of an id that a caller gives: the value of its variable, the id of its own task, or a number
abbrev pub bits_of : Plain → ℕ → Target → ℕ
bits_of k t (Var var) = var_at k t var
bits_of k t Own = id_of Task t
bits_of k t (Given bits) = bits

-- the index of the live object of a class, which isn't that of tasks, for which a caller asks; none where the id is unknown
abbrev pub object_named : Plain → ℕ → Class → Target → Option ℕ
object_named k t class id = object_of k class (bits_of k t id)

-- an object of a class is put at the first of the free indices; TOO_MANY where there is none
abbrev pub create_at : Plain → Class → List ℕ → ℕ → (ℕ → Plain → Plain) → Outcome
create_at k class [] name put = Refused TooMany
create_at k class (index ∷ free) name put = done (id_of class index) (put index (put_names k class (taken (names_in k class) index free name)))

-- the outcome where nothing else is wrong, and else a refusal
abbrev pub unless : Option Status → Outcome → Outcome
unless None o = o
unless (Some status) o = Refused status

-- The caller makes an object of a class: INVALID_NAME where the name is 0; then this refusal of its operands, if there is one; TOO_MANY where 64 objects of the class live; else it is put at the first free index, which has the name from now on. Out: its id.
abbrev pub create : Plain → Class → ℕ → Option Status → (ℕ → Plain → Plain) → Outcome
create k class name refusal put =
    if name == 0 then Refused InvalidName
    else unless refusal (create_at k class (names_in k class).free name put)

-- the caller has found the index of an object of a class, or none
abbrev pub on_named : Plain → Class → Option ℕ → Outcome
on_named k class None = Refused InvalidName
on_named k class (Some index) = done (id_of class index) k

-- The caller asks for an object of a class by its name: INVALID_NAME where no live object of the class has it. Out: the id of the live object of least index that has it.
abbrev pub ident : Plain → Class → ℕ → Outcome
ident k class name = on_named k class (least_named name (names_in k class).live)

-- the state in which an object of a class and an index lives no longer: the index goes last among the free ones
abbrev pub without_object : Plain → Class → ℕ → Plain
without_object k class index = put_names k class (given_back (names_in k class) index)
