-- Bodies of different names.
use Rattle.std.proofs.Common.{◌≡◌, ℕ, ◌+◌, Bool, true, false, cond, List, [], ◌∷◌, ◌++◌, Option, Some, None, refl, sym, ◌∙◌}
use Rattle.std.specs.Str.{bytes_eq}
use Rattle.std.proofs.lemmas.Bool.{false_from_ne_true, false≢true}
use Rattle.rk_model.specs.declared.scenario.Body.{Body}
use Rattle.rk_model.specs.Text.Scenarios.{is_named, body_from, body_of, AreDistinct}
use Rattle.rk_scenario.proofs.SpellingLemmas.{text_is, text_same}

-- no body has this name
abbrev AreOthers : List ℕ → List Body → Type 0
AreOthers name [] = Unit {0}
AreOthers name (body ∷ bodies) = (is_named name body ≡ false) × AreOthers name bodies

none_test : (b : ℕ) (t : Bool) (o : Option ℕ) → cond t (Some b) o ≡ None → (t ≡ false) × (o ≡ None)
none_test b true o e = absurd cc
none_test b false o e = (refl, e)

others_of : (b : ℕ) (name : List ℕ) (bodies : List Body) → body_from b name bodies ≡ None → AreOthers name bodies
others_of b name [] e = tt
others_of b name (body ∷ bodies) e =
    let t = none_test b (is_named name body) (body_from (b + 1) name bodies) e in (t.0, others_of (b + 1) name bodies t.1)

none_of : (b : ℕ) (name : List ℕ) (bodies : List Body) → AreOthers name bodies → body_from b name bodies ≡ None
none_of b name [] others = refl
none_of b name (body ∷ bodies) others = rw others.0 (none_of (b + 1) name bodies others.1)

others_parts : (name : List ℕ) (front : List Body) (body : Body) (back : List Body) → AreOthers name (front ++ body ∷ back) → (AreOthers name front) × (is_named name body ≡ false)
others_parts name [] body back others = (tt, others.0)
others_parts name (x ∷ front) body back others = let more = others_parts name front body back others.1 in ((others.0, more.0), more.1)

others_more : (name : List ℕ) (front : List Body) (body : Body) → AreOthers name front → is_named name body ≡ false → AreOthers name (front ++ body ∷ [])
others_more name [] body others other = (other, tt)
others_more name (x ∷ front) body others other = (others.0, others_more name front body others.1 other)

-- a name is another's exactly where that is this one's
other_turned : (a b : List ℕ) → bytes_eq a b ≡ false → bytes_eq b a ≡ false
other_turned a b e = false_from_ne_true (bytes_eq b a) (λ same. let is : b ≡ a = text_is b a same in false≢true (sym e ∙ (rw is (text_same a))))

others_before : (front : List Body) (body : Body) (back : List Body) → AreDistinct (front ++ body ∷ back) → AreOthers body.name front
others_before [] body back distinct = tt
others_before (x ∷ front) body back distinct =
    let others = others_parts x.name front body back (others_of 0 x.name (front ++ body ∷ back) distinct.0) in
    (other_turned body.name x.name others.1, others_before front body back distinct.1)

-- a body that stands behind others of different names has none of theirs
pub unknown_before : (front : List Body) (body : Body) (back : List Body) → AreDistinct (front ++ body ∷ back) → body_of front body.name ≡ None
unknown_before front body back distinct = none_of 0 body.name front (others_before front body back distinct)

distinct_others : (front : List Body) (body : Body) → AreDistinct front → AreOthers body.name front → AreDistinct (front ++ body ∷ [])
distinct_others [] body distinct others = (refl, tt)
distinct_others (x ∷ front) body distinct others = (
  none_of 0 x.name (front ++ body ∷ []) (others_more x.name front body (others_of 0 x.name front distinct.0) (other_turned x.name body.name others.0)),
  distinct_others front body distinct.1 others.1,
)

-- a body of a new name may be added
pub distinct_more : (front : List Body) (body : Body) → AreDistinct front → body_of front body.name ≡ None → AreDistinct (front ++ body ∷ [])
distinct_more front body distinct new = distinct_others front body distinct (others_of 0 body.name front new)
