-- The objects of a class, and what the calls on their ids answer.
use Rattle.std.specs.Prelude.{ℕ, ◌+◌, ◌≤◌, ◌≡◌, List, ◌∷◌, Bool, true, false, ◌&&◌, ◌==◌, filter, Option, Some, None, if◌then◌else◌, nat_le}
use Rattle.std.specs.List.{AllByRecursion}
use Rattle.rk_model.specs.declared.limits.TheConstants.{MOST_OBJECTS}
use Rattle.rk_model.specs.declared.ids.Class.{Class}
use Rattle.rk_model.specs.declared.ids.Named.{Named}
use Rattle.rk_model.specs.declared.ids.Id.{Id}
use Rattle.rk_model.specs.Ids.{id_of}
use Rattle.rk_model.specs.Lists.{has, times}
use Rattle.rk_model.specs.Names.{Names, indices, lives, taken}

-- The objects of a class: the class, and their names and indices.
pub record Objects : Type 0 where
  pub class : Class
  pub names : Names

-- the objects of this class with these names and indices
abbrev pub objects : Class → Names → Objects
objects class names = record { class = class; names = names }

-- Each index from 1 to 64 is that of one live object or is free once, and no other index is either.
abbrev pub IsSplit : Names → Type 0
IsSplit names = (index : ℕ) → times index (indices names.live) + times index names.free ≡ (if nat_le 1 index && nat_le index MOST_OBJECTS then 1 else 0)

-- whether an object of this index lives
abbrev pub lives_at : Objects → ℕ → Bool
lives_at all index = lives all.names index

-- An object of this name was made: the first free index is no longer free, it is from 1 to 64, and these are the bits of its id.
pub record IsMade (bits name : ℕ) (old new : Objects) : Type 0 where
  pub index : ℕ
  pub free : List ℕ
  pub first : old.names.free ≡ index ∷ free
  pub low : 1 ≤ index
  pub high : index ≤ MOST_OBJECTS
  pub id : bits ≡ id_of old.class index
  pub made : new ≡ objects old.class (taken old.names index free name)

-- the id of the object of this index, if there is an index
abbrev pub optional_id : Class → Option ℕ → Option Id
optional_id class None = None
optional_id class (Some index) = Some (record { bits = id_of class index })

-- an index where its object lives
abbrev pub live_index : Objects → Option ℕ → Option ℕ
live_index all None = None
live_index all (Some index) = if lives_at all index then Some index else None

-- whether an object has the name
abbrev pub has_name : ℕ → Named → Bool
has_name name object = object.name.bits == name

-- The bits are the id of a live object of the name, whose index is from 1 to 64, and no live object of less index has it.
pub record IsLeastNamed (bits name : ℕ) (all : Objects) : Type 0 where
  pub index : ℕ
  pub low : 1 ≤ index
  pub high : index ≤ MOST_OBJECTS
  pub id : bits ≡ id_of all.class index
  pub named : has (indices (filter (has_name name) all.names.live)) index ≡ true
  pub least : AllByRecursion (λ (object : Named). has_name name object ≡ true → index ≤ object.index) all.names.live

-- No live object has the name.
abbrev pub NoneIsNamed : ℕ → Objects → Type 0
NoneIsNamed name all = AllByRecursion (λ (object : Named). has_name name object ≡ false) all.names.live
