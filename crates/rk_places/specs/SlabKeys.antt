-- Where the code holds the places of a group: in a slab, under a key for each.
use Rattle.std.specs.Prelude.{ℕ, ◌≡◌, ◌≤◌, ◌<◌, true, List, [], ◌∷◌, length, Option, Some, None, IsSome}
use Rattle.rk_model.specs.Lists.{has, times}
use Rattle.rk_places.specs.declared.places.TheConstants.{PLACES}
use Rattle.slab.specs.Slab.{Slab, get, slab_len}

module _ {X : Type 0} where
  -- what a slab has somewhere, if anything, in front of other items
  abbrev pub in_front : Option X → List X → List X
  in_front None items = items
  in_front (Some x) items = x ∷ items

  -- what a slab has under these keys
  abbrev pub placed : Slab X → List ℕ → List X
  placed slab [] = []
  placed slab (key ∷ keys) = in_front (get slab key) (placed slab keys)

  -- Under each key there is a place, and each key is that of one place.
  pub record AreKeys (slab : Slab X) (keys : List ℕ) : Type 0 where
    pub once : (key : ℕ) → times key keys ≤ 1
    pub stored : (key : ℕ) → has keys key ≡ true → IsSome (get slab key)

  -- The group has up to 16 places, under as many keys, and there is room for all 16.
  pub record IsHeld (group : ℕ) (slab : Slab X) (keys : List ℕ) : Type 0 where
    pub below : group < 4
    pub few : length keys ≤ PLACES
    pub count : slab_len slab ≡ length keys
    pub room : PLACES ≤ slab.capacity
    pub under : AreKeys slab keys
