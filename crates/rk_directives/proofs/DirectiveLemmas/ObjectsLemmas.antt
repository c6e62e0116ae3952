-- What the making of an object of any class comes to.
use Rattle.std.proofs.Common.{◌≡◌, ℕ, List, Bool, true, false, cond, Option, Some, None, Ok, Err, refl, sym, ap, ◌∙◌}
use Rattle.rk_model.specs.declared.entry.Answer.{Answer}
use Rattle.rk_model.specs.declared.entry.Answer.TheVariants.{Done}
use Rattle.rk_model.specs.declared.entry.Answer.TheVariants as told
use Rattle.rk_model.specs.declared.ids.Class.{Class}
use Rattle.rk_model.specs.declared.scenario.Scenario.{Scenario}
use Rattle.rk_model.specs.declared.status.Status.{Status}
use Rattle.rk_model.specs.declared.status.Status.TheVariants.{Successful}
use Rattle.rk_model.specs.Ids.{id_of}
use Rattle.rk_model.specs.Names.{Table}
use Rattle.rk_model.specs.State.{Plain}
use Rattle.rk_model.specs.declared.scenario.Target.{Target}
use Rattle.rk_model.specs.Directives.Objects.{is_live, live_one, object_named, create}
use Rattle.rk_model.specs.Directives.Outcomes.{answer_of, changed}
use Rattle.rk_parts.specs.declared.parts.ClusterPart.{ClusterPart}
use Rattle.rk_groups.specs.declared.group.GroupPart.{GroupPart}
use Rattle.rk_parts.specs.Holdings.{holdings}
use Rattle.rk_parts.specs.Joined.{joined}
use Rattle.rk_parts.specs.Lent.{AreLaid, accounts, layouts, stored}
use Rattle.rk_directives.specs.Does.{Creates, DoesWide, with_table}

-- an object got an index and its name, and was put there: it was created
pub created : (s : Scenario) (class : Class) (name index : ℕ) (refusal : Option Status) (put : Plain → ℕ → Plain → Plain) (answer : Answer) (old new : List ClusterPart) (table table' : Table) → ((k : Plain) → Creates (with_table k table) class name refusal (Ok index) (with_table k table')) → answer ≡ Done Successful (id_of class index) None →
    ((groups : List GroupPart) → AreLaid s.clusters (layouts old) → joined s table' new groups ≡ put (joined s table old groups) index (joined s table' old groups)) → (AreLaid s.clusters (layouts old) → AreLaid s.clusters (layouts new)) → stored new ≡ stored old → accounts new ≡ accounts old → holdings new ≡ holdings old → DoesWide s (λ k. create k class name refusal (put k)) answer old table new table'
created s class name index refusal put answer old new table table' creates is state laid kept noted held = record {
  told = λ groups. (let k = joined s table old groups in is ∙ ap answer_of (sym (creates k (put k))));
  state = λ groups lies. (let k = joined s table old groups in state groups lies ∙ ap (changed k) (sym (creates k (put k))));
  laid = laid;
  kept = kept;
  accounts = noted;
  held = held;
}

-- the create was refused
pub refused : (s : Scenario) (class : Class) (name : ℕ) (refusal : Option Status) (put : Plain → ℕ → Plain → Plain) (status : Status) (old : List ClusterPart) (table table' : Table) → ((k : Plain) → Creates (with_table k table) class name refusal (Err status) (with_table k table')) → DoesWide s (λ k. create k class name refusal (put k)) (told.Refused status) old table old table'
refused s class name refusal put status old table table' creates = record {
  told = λ groups. (let k = joined s table old groups in ap answer_of (sym ((creates k).0 (put k))));
  state = λ groups lies. (let k = joined s table old groups in (creates k).1 ∙ ap (changed k) (sym ((creates k).0 (put k))));
  laid = λ lies. lies;
  kept = refl;
  accounts = refl;
  held = refl;
}

-- ---- objects that a caller asks for

live_by : (k : Plain) (class : Class) (i j : ℕ) (b : Bool) → is_live k class i ≡ b → cond b (Some i) None ≡ Some j → is_live k class j ≡ true
live_by k class i j true e is = let same : i ≡ j = cc in ap (is_live k class) (sym same) ∙ e
live_by k class i j false e is = let no : ⊥ = cc in absurd no

live_found : (k : Plain) (class : Class) (o : Option ℕ) (j : ℕ) → live_one k class o ≡ Some j → is_live k class j ≡ true
live_found k class None j is = let no : ⊥ = cc in absurd no
live_found k class (Some i) j is = live_by k class i j (is_live k class i) refl is

-- one that is found lives
pub named_lives : (k : Plain) (t : ℕ) (class : Class) (id : Target) (i : ℕ) → object_named k t class id ≡ Some i → is_live k class i ≡ true
named_lives k t class id i is = live_found k class _ i is
