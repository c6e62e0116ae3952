-- The least index of the objects of a name.
use Rattle.std.proofs.Common.{◌≡◌, ℕ, ◌≤◌, List, [], ◌∷◌, Bool, true, false, cond, ◌==◌, ◌||◌, min, Option, Some, None, ⊎_elim, arith, refl, ap, sym, subst, ◌∙◌}
use Rattle.std.specs.List.{AllByRecursion, filter}
use Rattle.std.proofs.lemmas.Bool.{cases_lt, false≢true}
use Rattle.std.proofs.lemmas.Bool.Decides.{nat_tests}
use Rattle.rk_model.specs.declared.ids.Named.{Named}
use Rattle.rk_model.specs.Lists.{has}
use Rattle.rk_model.specs.Names.{lesser, least_named, indices}
use Rattle.rk_ids.specs.LiveObjects.{has_name}

-- the lesser of two indices, if there are any
abbrev pub least_of : Option ℕ → Option ℕ → Option ℕ
least_of None other = other
least_of (Some index) other = Some (lesser index other)

lesser_lesser : (i j : ℕ) (other : Option ℕ) → lesser (lesser i (Some j)) other ≡ lesser j (Some (lesser i other))
lesser_lesser i j None = omega arith
lesser_lesser i j (Some k) = omega arith

-- one more object of the name
pub least_more : (i : ℕ) (before after : Option ℕ) → least_of (Some (lesser i before)) after ≡ least_of before (Some (lesser i after))
least_more i None after = refl
least_more i (Some j) after = ap (λ (k : ℕ). Some k) (lesser_lesser i j after)

lesser_among : (objects : List Named) (i : ℕ) (found : Option ℕ) (least : ℕ) → ((other : ℕ) → found ≡ Some other → has (indices objects) other ≡ true) → lesser i found ≡ least → ((i == least) || has (indices objects) least) ≡ true
lesser_among objects i None least among is = grind (arith, nat_tests, is)
lesser_among objects i (Some other) least among is = grind (arith, nat_tests, is, among other refl)

-- the least index is that of an object
pub least_stands : (name : ℕ) (objects : List Named) (least : ℕ) → least_named name objects ≡ Some least → has (indices objects) least ≡ true
least_stands name [] least is = absurd (let no : ⊥ = cc in no)
least_stands name (object ∷ objects) least is = by (object.name.bits == name) is (λ other. least_stands name objects other) where
  by : (b : Bool) → cond b (Some (lesser object.index (least_named name objects))) (least_named name objects) ≡ Some least → ((other : ℕ) → least_named name objects ≡ Some other → has (indices objects) other ≡ true) → ((object.index == least) || has (indices objects) least) ≡ true
  by true h among = let same : lesser object.index (least_named name objects) ≡ least = cc in lesser_among objects object.index (least_named name objects) least among same
  by false h among = let more = among least h in grind (arith, nat_tests, more)

-- what it is to be this least index, or none
abbrev pub Least : ℕ → List Named → Option ℕ → Type 0
Least name live None = AllByRecursion (λ (object : Named). has_name name object ≡ false) live
Least name live (Some index) = (has (indices (filter (has_name name) live)) index ≡ true) × AllByRecursion (λ (object : Named). has_name name object ≡ true → index ≤ object.index) live

lower : (name i j : ℕ) (live : List Named) → i ≤ j → AllByRecursion (λ (object : Named). has_name name object ≡ true → j ≤ object.index) live → AllByRecursion (λ (object : Named). has_name name object ≡ true → i ≤ object.index) live
lower name i j [] le all = tt
lower name i j (object ∷ live) le all = (λ h. let below = all.0 h in omega (arith, le, below), lower name i j live le all.1)

vacuous : (name i : ℕ) (live : List Named) → AllByRecursion (λ (object : Named). has_name name object ≡ false) live → AllByRecursion (λ (object : Named). has_name name object ≡ true → i ≤ object.index) live
vacuous name i [] none = tt
vacuous name i (object ∷ live) none = (λ h. absurd (false≢true (sym none.0 ∙ h)), vacuous name i live none.1)

-- an object of the name in front of others, of which j is the least index
in_front : (name : ℕ) (object : Named) (live : List Named) (m j : ℕ) → has_name name object ≡ true → m ≤ object.index → m ≤ j → ((object.index == m) || has (indices (filter (has_name name) live)) m) ≡ true →
    AllByRecursion (λ (other : Named). has_name name other ≡ true → j ≤ other.index) live → Least name (object ∷ live) (Some m)
in_front name object live m j e here behind stands all = (rw e stands, (λ h. here, lower name m j live behind all))

one_of : (i j : ℕ) (xs : List ℕ) → has xs j ≡ true → ((i == min i j) || has xs (min i j)) ≡ true
one_of i j xs stands =
    ⊎_elim
    (λ lt. let is : min i j ≡ i = omega (arith, lt) in subst (λ m. ((i == m) || has xs m) ≡ true) (sym is) (grind (arith, nat_tests)))
    (λ le. let is : min i j ≡ j = omega (arith, le) in subst (λ m. ((i == m) || has xs m) ≡ true) (sym is) (grind (arith, nat_tests, stands)))
    (cases_lt i j)

one_more : (name : ℕ) (object : Named) (live : List Named) (b : Bool) → has_name name object ≡ b → (o : Option ℕ) → Least name live o → Least name (object ∷ live) (cond b (Some (lesser object.index o)) o)
one_more name object live true e None rest =
    in_front name object live object.index object.index e (omega arith) (omega arith) (grind (arith, nat_tests)) (vacuous name object.index live rest)
one_more name object live true e (Some j) rest =
    in_front name object live (min object.index j) j e (omega arith) (omega arith) (one_of object.index j (indices (filter (has_name name) live)) rest.0) rest.1
one_more name object live false e None rest = (e, rest)
one_more name object live false e (Some j) rest = (rw e rest.0, (λ h. absurd (false≢true (sym e ∙ h)), rest.1))

pub least_is : (name : ℕ) (live : List Named) → Least name live (least_named name live)
least_is name [] = tt
least_is name (object ∷ live) = one_more name object live (has_name name object) refl (least_named name live) (least_is name live)
