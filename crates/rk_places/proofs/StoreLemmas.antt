-- Stores in which a place was changed.
use Rattle.std.proofs.Common.{◌≡◌, ◌≢◌, ℕ, ◌≤◌, length, arith, ap, ◌∙◌}
use Rattle.rk_model.proofs.IndexLemmas.{nth-with_same, nth-with_other, length-with_nth}
use Rattle.rk_places.specs.Stores.{Store, group_of, IsOfGroup, IsStoreOf, stored_at, put_at}

module _ {X : Type 0} (none : X) where
  -- The place of the index is what was put,
  pub put_same : (store : Store X) (index : ℕ) (stored : X) → IsStoreOf none store → IsOfGroup store.group index → stored_at none (put_at store index stored) index ≡ stored
  put_same store index stored is of =
      let within : index ≤ length store.places = rw is.count of.high in
      nth-with_same none stored store.places index (omega (arith, of.low)) within

  -- the others are as before,
  pub put_other : (store : Store X) (index other : ℕ) (stored : X) → other ≢ index → stored_at none (put_at store index stored) other ≡ stored_at none store other
  put_other store index other stored differs = nth-with_other none stored store.places index other differs

  -- and it is a store.
  pub put_is_store : (store : Store X) (index : ℕ) (stored : X) → IsStoreOf none store → IsOfGroup store.group index → IsStoreOf none (put_at store index stored)
  put_is_store store index stored is of =
      record {
        below = is.below;
        count = length-with_nth stored store.places index ∙ is.count;
        others = λ other apart. put_other store index other stored (λ same. apart (ap group_of same ∙ of.of)) ∙ is.others other apart;
      }
