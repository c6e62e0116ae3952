-- The objects of a class in a group: which indices are of the group, and what stands at their places.
use Rattle.std.specs.Prelude.{ℕ, ◌≡◌, ◌≢◌, ◌-◌, ◌/◌, ◌%◌, ◌≤◌, ◌<◌, ◌==◌, List, [], ◌∷◌, ◌++◌, length, slice_set, refl, if◌then◌else◌}
use Rattle.std.specs.List.{repeat, slice_index_or}
use Rattle.std.specs.Coded.{Coded, code_by, coded×, coded_ℕ, coded_list}
use Rattle.rk_model.specs.declared.limits.TheConstants.{MOST_OBJECTS}
use Rattle.rk_model.specs.Lists.{nth, with_nth}
use Rattle.rk_places.specs.declared.places.TheConstants.{GROUPS, PLACES}

-- The store of a group: its number from 0 to 3, and a place for each index from 1 to 64.
pub record Store (X : Type 0) : Type 0 where
  pub group : ℕ
  pub places : List X

-- The places of a group alone: its number, and what stands at each, in the order of their indices.
pub record GroupItems (X : Type 0) : Type 0 where
  pub group : ℕ
  pub items : List X

-- they are stored as the pair of these
abbrev pub group_items_code : {X : Type 0} → Coded X → Coded (GroupItems X)
group_items_code {X} code =
    code_by (ℕ × List X) (coded× coded_ℕ (coded_list code)) (λ s. (s.group, s.items)) (λ p. record { group = p.0; items = p.1 }) (λ _. refl)

-- the group of an index from 1
abbrev pub group_of : ℕ → ℕ
group_of index = (index - 1) % GROUPS

-- which of the places of its group an index has, from 0
abbrev pub place_of : ℕ → ℕ
place_of index = (index - 1) / GROUPS

-- The index is one of 1 to 64, and of the group.
pub record IsOfGroup (group index : ℕ) : Type 0 where
  pub low : 1 ≤ index
  pub high : index ≤ MOST_OBJECTS
  pub of : group_of index ≡ group

module _ {X : Type 0} where
  -- Stores, in which `none` stands for a place where no object lives:

  -- the store of a group in which none lives
  abbrev pub none_live : X → ℕ → Store X
  none_live none group = record { group = group; places = repeat MOST_OBJECTS (none ∷ []) }

  -- There are places for 64 objects, and at each index of another group none lives.
  pub record IsStoreOf (none : X) (store : Store X) : Type 0 where
    pub below : store.group < 4
    pub count : length store.places ≡ MOST_OBJECTS
    pub others : (index : ℕ) → group_of index ≢ store.group → nth none store.places index ≡ none

  -- the place of an index
  abbrev pub stored_at : X → Store X → ℕ → X
  stored_at none store index = nth none store.places index

  -- the store with another place at an index
  abbrev pub put_at : Store X → ℕ → X → Store X
  put_at store index stored = record store { places = with_nth store.places index stored }

  -- The places of a group alone:

  -- none of them is made
  abbrev pub no_items : ℕ → GroupItems X
  no_items group = record { group = group; items = [] }

  -- so many of them are made, and no object lives there
  abbrev pub vacant_items : X → ℕ → ℕ → GroupItems X
  vacant_items none group made = record { group = group; items = repeat made (none ∷ []) }

  -- the place of the next index is made
  abbrev pub with_item : GroupItems X → X → GroupItems X
  with_item held x = record held { items = held.items ++ x ∷ [] }

  -- All are made.
  pub record IsFull (held : GroupItems X) : Type 0 where
    pub below : held.group < 4
    pub count : length held.items ≡ PLACES

  -- what stands at the place of an index; the first is what stands where there is no such place
  abbrev pub item_at : X → GroupItems X → ℕ → X
  item_at none held index = slice_index_or held.items (place_of index) none

  -- something else stands at the place of an index
  abbrev pub put_item : GroupItems X → ℕ → X → GroupItems X
  put_item held index x = record held { items = slice_set held.items (place_of index) x }

  -- The places of a group among those of all:

  -- a place that is that of a group where the group has this number
  abbrev pub place_in : X → ℕ → ℕ → X → X
  place_in none group number x = if group == number then x else none

  -- the places of all groups, where a group has these, and at those of the others no object lives
  abbrev pub spread : X → ℕ → List X → List X
  spread none group [] = []
  spread none group (x ∷ items) =
      place_in none group 0 x ∷ place_in none group 1 x ∷ place_in none group 2 x ∷ place_in none group 3 x ∷ spread none group items

  -- the store of these places
  abbrev pub store_of : X → GroupItems X → Store X
  store_of none held = record { group = held.group; places = spread none held.group held.items }
