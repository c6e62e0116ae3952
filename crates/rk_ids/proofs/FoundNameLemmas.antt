-- What is found of a name.
use Rattle.std.proofs.Common.{◌≡◌, ℕ, Option, Some, None, IfSome, IfNone, refl}
use Rattle.rk_model.specs.declared.ids.Id.{Id}
use Rattle.rk_model.specs.Names.{least_named}
use Rattle.rk_ids.specs.LiveObjects.{Objects, IsSplit, optional_id, IsLeastNamed, NoneIsNamed}
use Rattle.rk_ids.proofs.LeastNameLemmas.{Least, least_is, least_stands}
use Rattle.rk_ids.proofs.FreeIndexLemmas.{live_within}

-- What was found is the id of the live object of least index that has the name,
pub found_least : (result : Option Id) (name : ℕ) (all : Objects) → IsSplit all.names → result ≡ optional_id all.class (least_named name all.names.live) → IfSome result (λ id. IsLeastNamed id.bits name all)
found_least result name all split is = rw is (by (least_named name all.names.live) refl (least_is name all.names.live)) where
  by : (o : Option ℕ) → least_named name all.names.live ≡ o → Least name all.names.live o → IfSome (optional_id all.class o) (λ id. IsLeastNamed id.bits name all)
  by None e least = tt
  by (Some index) e least =
      let within = live_within all.names index split (least_stands name all.names.live index e) in
      record { index = index; low = within.0; high = within.1; id = refl; named = least.0; least = least.1 }

-- and nothing was found where no live object has it.
pub found_none : (result : Option Id) (name : ℕ) (all : Objects) → result ≡ optional_id all.class (least_named name all.names.live) → IfNone result (NoneIsNamed name all)
found_none result name all is = rw is (by (least_named name all.names.live) (least_is name all.names.live)) where
  by : (o : Option ℕ) → Least name all.names.live o → IfNone (optional_id all.class o) (NoneIsNamed name all)
  by None least = least
  by (Some index) least = tt
