-- What is wrong with the word of an operand is what the machine says of it.
use Rattle.std.proofs.Common.{◌≡◌, ℕ, ◌+◌, ◌≤◌, Bool, true, false, cond, ◌&&◌, ◌⊎◌, inl, inr, List, [], ◌∷◌, length, Option, Some, None, Result, Ok, Err, codes, refl, sym, ap, subst, ◌∙◌, arith}
use Rattle.std.specs.Prelude.{nat_le, nat_lt}
use Rattle.std.specs.List.{AllByRecursion}
use Rattle.std.specs.Str.{bytes_eq}
use Rattle.std.proofs.lemmas.Bool.{and_parts, leb-true, le-leb, ltb-true, lt-ltb, false_from_ne_true, false≢true}
use Rattle.rk_model.specs.declared.scenario.Op.{Op}
use Rattle.rk_model.specs.declared.scenario.Target.{Target}
use Rattle.rk_model.specs.declared.scenario.Target.TheVariants.{Own, Given}
use Rattle.rk_model.specs.declared.scenario.Wish.TheVariants.{NoWait, Limit}
use Rattle.rk_model.specs.declared.scenario.Body.{Body}
use Rattle.rk_model.specs.declared.scenario.ScenarioWhy.{ScenarioWhy}
use Rattle.rk_model.specs.declared.scenario.ScenarioWhy.TheVariants.{Word, Number, Range, UnknownName, Repeated}
use Rattle.rk_model.specs.Text.Words.{number_of, name_of, name0_of, var_of, is_body_name, semaphore_kind_of, order_of, protocol_of}
use Rattle.rk_model.specs.Text.Forms.{Operand}
use Rattle.rk_model.specs.Text.Scenarios.{IsEither, is_named, body_from, body_of, body_known, is_target}
use Rattle.rk_model.specs.Text.Reading.{◌>>=◌, Draft, known_at, within, below, given_value, body_told, named, led, id_by, number_operand, cluster_operand, var_operand, given_operand, fixed_operand, id_operand, address_operand, goto_operand, name_operand, name0_operand, body_operand, start_operand, either_operand, wish_operand, semaphore_kind_operand, order_operand, protocol_operand, operand_of}
use Rattle.rk_scenario.specs.Reasons.{Slot, Of, NewBody, WholeBody, IsFit, IsMisspelled, takes_numbers, ReplacesNumber, IsInRange, IsUnknownName, IsRepeatedName, IsUnfit}
use Rattle.rk_scenario.proofs.SpellingLemmas.{text_is, text_same, cluster_ok, cluster_is, name_ok, name_is, number_ok, number_is, number_no_var, number_differs, self_no_number, nowait_no_number, body_ok, body_is}
use Rattle.rk_scenario.proofs.OperandLemmas.{operand_ok, operand_is}

-- ---- what a result says

-- A result is taken exactly where this is right, and refused for a reason exactly where that is wrong.
pub record Judges {A : Type 0} (r : Result A ScenarioWhy) (Right : Type 0) (Wrong : ScenarioWhy → Type 0) : Type 0 where
  pub fit : (x : A) → r ≡ Ok x → Right
  pub taken : Right → (x : A) × (r ≡ Ok x)
  pub told : (why : ScenarioWhy) → r ≡ Err why → Wrong why
  pub refused : (why : ScenarioWhy) → Wrong why → r ≡ Err why

-- what holds of the reason of a refusal
pub told_of : {A : Type 0} (P : ScenarioWhy → Type 0) (is : ScenarioWhy) → P is → (why : ScenarioWhy) → ◌≡◌ {A = Result A ScenarioWhy} (Err is) (Err why) → P why
told_of P is holds why e = let same : is ≡ why = cc in subst P same holds

pub bind_judges : {A B : Type 0} (r : Result A ScenarioWhy) (f : A → Result B ScenarioWhy) (R S : Type 0) (W V : ScenarioWhy → Type 0) → Judges r R W → ((x : A) → r ≡ Ok x → Judges (f x) S V) → Judges (r >>= f) (R × S) (λ why. W why ⊎ (R × V why))
bind_judges {A} {B} (Ok x) f R S W V first next =
    let after = next x refl in
    record {
      fit = λ y e. (first.fit x refl, after.fit y e);
      taken = λ both. after.taken both.1;
      told = λ why e. inr (first.fit x refl, after.told why e);
      refused = λ why wrong. elim wrong [
        | inl h ↦ let no : ◌≡◌ {A = Result A ScenarioWhy} (Ok x) (Err why) = first.refused why h in absurd cc
        | inr h ↦ after.refused why h.1
      ];
    }
bind_judges {A} {B} (Err is) f R S W V first next = record {
  fit = λ y e. absurd cc;
  taken = λ both. let t = first.taken both.0 in absurd (let no : ◌≡◌ {A = Result A ScenarioWhy} (Err is) (Ok t.0) = t.1 in cc);
  told = λ why e. let same : is ≡ why = cc in inl (subst W same (first.told is refl));
  refused = λ why wrong. elim wrong [
    | inl h ↦ let same : ◌≡◌ {A = Result A ScenarioWhy} (Err is) (Err why) = first.refused why h in cc
    | inr h ↦ let t = first.taken h.0 in absurd (let no : ◌≡◌ {A = Result A ScenarioWhy} (Err is) (Ok t.0) = t.1 in cc)
  ];
}

pub done_judges : {A : Type 0} (x : A) → Judges (Ok x) (Unit {0}) (λ why. ⊥)
done_judges x = record { fit = λ y e. tt; taken = λ right. (x, refl); told = λ why e. absurd cc; refused = λ why wrong. absurd wrong }

-- ---- which reasons a slot has

spells : (slot : Slot) (word : List ℕ) → takes_numbers slot ≡ true → IsMisspelled slot word → ⊥
spells (Of (Operand.Number least most)) word is wrong = wrong
spells (Of Operand.Id) word is wrong = wrong
spells (Of Operand.Address) word is wrong = wrong
spells (Of Operand.Cluster) word is wrong = wrong
spells (Of Operand.Earlier) word is wrong = wrong
spells (Of Operand.Wish) word is wrong = wrong
spells _ word is wrong = false≢true is

knows : (d : Draft) (slot : Slot) (word : List ℕ) → takes_numbers slot ≡ true → IsUnknownName d slot word → ⊥
knows d (Of Operand.B) word is wrong = false≢true is
knows d WholeBody word is wrong = false≢true is
knows d (Of (Operand.Number least most)) word is wrong = wrong
knows d _ word is wrong = wrong

gives : (d : Draft) (slot : Slot) (word : List ℕ) → takes_numbers slot ≡ true → IsRepeatedName d slot word → ⊥
gives d NewBody word is wrong = false≢true is
gives d (Of operand) word is wrong = wrong
gives d _ word is wrong = wrong

-- a word where a number may stand has one of two reasons
number_only : {A : Type 0} (d : Draft) (slot : Slot) (word : List ℕ) (r : Result A ScenarioWhy) → takes_numbers slot ≡ true
    → (number_of word ≡ None → (ReplacesNumber slot word → ⊥) → r ≡ Err Number) → ((n : ℕ) → number_of word ≡ Some n → (IsInRange d slot n → ⊥) → r ≡ Err Range)
    → (why : ScenarioWhy) → IsUnfit d slot word why → r ≡ Err why
number_only d slot word r is none outside Word wrong = absurd (spells slot word is wrong)
number_only d slot word r is none outside Number wrong = none wrong.none wrong.other
number_only d slot word r is none outside Range wrong = outside wrong.number wrong.value wrong.outside
number_only d slot word r is none outside UnknownName wrong = absurd (knows d slot word is wrong)
number_only d slot word r is none outside Repeated wrong = absurd (gives d slot word is wrong)
number_only d slot word r is none outside _ wrong = absurd wrong

-- a word where no number may stand, and no body's name, has one reason
word_only : {A : Type 0} (d : Draft) (slot : Slot) (word : List ℕ) (r : Result A ScenarioWhy) → takes_numbers slot ≡ false → (IsUnknownName d slot word → ⊥) → (IsRepeatedName d slot word → ⊥)
    → (IsMisspelled slot word → r ≡ Err Word) → (why : ScenarioWhy) → IsUnfit d slot word why → r ≡ Err why
word_only d slot word r wordy known new spelling Word wrong = spelling wrong
word_only d slot word r wordy known new spelling Number wrong = absurd (false≢true (sym wordy ∙ wrong.numbers))
word_only d slot word r wordy known new spelling Range wrong = absurd (false≢true (sym wordy ∙ wrong.numbers))
word_only d slot word r wordy known new spelling UnknownName wrong = absurd (known wrong)
word_only d slot word r wordy known new spelling Repeated wrong = absurd (new wrong)
word_only d slot word r wordy known new spelling _ wrong = absurd wrong

-- ---- numbers

-- the number where a test holds of it
abbrev ranged : (ℕ → Bool) → Option ℕ → Result ℕ ScenarioWhy
ranged test None = Err Number
ranged test (Some n) = cond (test n) (Ok n) (Err Range)

-- a slot takes the numbers of which a test holds
record Takes (d : Draft) (slot : Slot) (test : ℕ → Bool) : Type 0 where
  numbers : takes_numbers slot ≡ true
  inside : (n : ℕ) → IsInRange d slot n → test n ≡ true
  back : (n : ℕ) → test n ≡ true → IsInRange d slot n

ranged_told : (d : Draft) (slot : Slot) (word : List ℕ) (test : ℕ → Bool) (o : Option ℕ) → Takes d slot test → (ReplacesNumber slot word → ⊥) → number_of word ≡ o
    → (why : ScenarioWhy) → ranged test o ≡ Err why → IsUnfit d slot word why
ranged_told d slot word test None takes alone is why e = told_of (λ w. IsUnfit d slot word w) Number (record { numbers = takes.numbers; none = is; other = alone }) why e
ranged_told d slot word test (Some n) takes alone is why e = go (test n) refl e
  where
    go : (b : Bool) → test n ≡ b → cond {A = Result ℕ ScenarioWhy} b (Ok n) (Err Range) ≡ Err why → IsUnfit d slot word why
    go true same e = absurd cc
    go false same e = told_of (λ w. IsUnfit d slot word w) Range (record { numbers = takes.numbers; number = n; value = is; outside = λ inside. false≢true (sym same ∙ takes.inside n inside) }) why e

ranged_refused : (d : Draft) (slot : Slot) (word : List ℕ) (test : ℕ → Bool) → Takes d slot test → (why : ScenarioWhy) → IsUnfit d slot word why → ranged test (number_of word) ≡ Err why
ranged_refused d slot word test takes why wrong =
    number_only d slot word (ranged test (number_of word)) takes.numbers
    (λ none other. ap (ranged test) none)
    (λ n value outside. let no : test n ≡ false = false_from_ne_true (test n) (λ same. outside (takes.back n same)) in ap (ranged test) value ∙ ap (λ (b : Bool). cond {A = Result ℕ ScenarioWhy} b (Ok n) (Err Range)) no)
    why wrong

within_is : (least most : ℕ) (o : Option ℕ) → within least most o ≡ ranged (λ n. nat_le least n && nat_le n most) o
within_is least most None = refl
within_is least most (Some n) = refl

below_is : (count : ℕ) (o : Option ℕ) → below count o ≡ ranged (λ n. nat_lt n count) o
below_is count None = refl
below_is count (Some n) = refl

led_is : (earlier : List Op) (o : Option ℕ) → led earlier o ≡ ranged (λ n. is_target earlier n) o
led_is earlier None = refl
led_is earlier (Some n) = refl

range_holds : (d : Draft) (least most : ℕ) → Takes d (Of (Operand.Number least most)) (λ n. nat_le least n && nat_le n most)
range_holds d least most = record {
  numbers = refl;
  inside = λ n h. let low = le-leb least n h.0 in let high = le-leb n most h.1 in rw (low, high) refl;
  back = λ n h. let both = and_parts (nat_le least n) (nat_le n most) h in (leb-true least n both.0, leb-true n most both.1);
}

earlier_holds : (d : Draft) → Takes d (Of Operand.Earlier) (λ n. is_target d.body.lines n)
earlier_holds d = record { numbers = refl; inside = λ n h. h; back = λ n h. h }

cluster_holds : (d : Draft) → Takes d (Of Operand.Cluster) (λ n. nat_lt n (length d.scenario.clusters))
cluster_holds d = record { numbers = refl; inside = λ n h. lt-ltb n (length d.scenario.clusters) h; back = λ n h. ltb-true n (length d.scenario.clusters) h }

-- any number of 32 bits
abbrev is_short : ℕ → Bool
is_short n = nat_le 0 n && nat_le n 4294967295

short_in : (n : ℕ) → n ≤ 4294967295 → is_short n ≡ true
short_in n h = let low : 0 ≤ n = omega arith in let first = le-leb 0 n low in let high = le-leb n 4294967295 h in rw (first, high) refl

short_back : (n : ℕ) → is_short n ≡ true → n ≤ 4294967295
short_back n h = let both = and_parts (nat_le 0 n) (nat_le n 4294967295) h in leb-true n 4294967295 both.1

id_holds : (d : Draft) → Takes d (Of Operand.Id) is_short
id_holds d = record { numbers = refl; inside = short_in; back = short_back }

address_holds : (d : Draft) → Takes d (Of Operand.Address) is_short
address_holds d = record { numbers = refl; inside = short_in; back = short_back }

wish_holds : (d : Draft) → Takes d (Of Operand.Wish) is_short
wish_holds d = record { numbers = refl; inside = short_in; back = short_back }

number_told : (d : Draft) (slot : Slot) (word : List ℕ) (least most : ℕ) → Takes d slot (λ n. nat_le least n && nat_le n most) → (ReplacesNumber slot word → ⊥)
    → (why : ScenarioWhy) → number_operand least most word ≡ Err why → IsUnfit d slot word why
unfolding number_operand
number_told d slot word least most takes alone why e =
    ranged_told d slot word (λ n. nat_le least n && nat_le n most) (number_of word) takes alone refl why (sym (within_is least most (number_of word)) ∙ e)

number_refused : (d : Draft) (slot : Slot) (word : List ℕ) (least most : ℕ) → Takes d slot (λ n. nat_le least n && nat_le n most)
    → (why : ScenarioWhy) → IsUnfit d slot word why → number_operand least most word ≡ Err why
unfolding number_operand
number_refused d slot word least most takes why wrong =
    within_is least most (number_of word) ∙ ranged_refused d slot word (λ n. nat_le least n && nat_le n most) takes why wrong

pub number_judges : (d : Draft) (least most : ℕ) (word : List ℕ) → Judges (number_operand least most word) (IsFit d (Of (Operand.Number least most)) word) (IsUnfit d (Of (Operand.Number least most)) word)
number_judges d least most word = record {
  fit = λ n e. (n, number_ok least most word n e);
  taken = λ h. (h.0, number_is least most word h.0 h.1);
  told = λ why e. number_told d (Of (Operand.Number least most)) word least most (range_holds d least most) (λ other. other) why e;
  refused = λ why wrong. number_refused d (Of (Operand.Number least most)) word least most (range_holds d least most) why wrong;
}

pub cluster_judges : (d : Draft) (word : List ℕ) → Judges (cluster_operand (length d.scenario.clusters) word) (IsFit d (Of Operand.Cluster) word) (IsUnfit d (Of Operand.Cluster) word)
unfolding cluster_operand
cluster_judges d word =
    let count : ℕ = length d.scenario.clusters in
    let test : ℕ → Bool = λ n. nat_lt n count in
    record {
      fit = λ n e. (n, cluster_ok count word n e);
      taken = λ h. (h.0, cluster_is count word h.0 h.1);
      told = λ why e. ranged_told d (Of Operand.Cluster) word test (number_of word) (cluster_holds d) (λ other. other) refl why (sym (below_is count (number_of word)) ∙ e);
      refused = λ why wrong. below_is count (number_of word) ∙ ranged_refused d (Of Operand.Cluster) word test (cluster_holds d) why wrong;
    }

-- ---- what may stand in place of a number

made_err : {A B : Type 0} (r : Result A ScenarioWhy) (make : A → B) (why : ScenarioWhy) → (r >>= (λ x. Ok (make x))) ≡ Err why → r ≡ Err why
made_err (Ok x) make why e = absurd cc
made_err (Err is) make why e = cc

err_made : {A B : Type 0} (r : Result A ScenarioWhy) (make : A → B) (why : ScenarioWhy) → r ≡ Err why → (r >>= (λ x. Ok (make x))) ≡ Err why
err_made (Ok x) make why e = absurd cc
err_made (Err is) make why e = cc

-- a word in place of a number isn't refused, and any other is as a number is
in_place : {A : Type 0} (b : Bool) (x : A) (r : Result A ScenarioWhy) (why : ScenarioWhy) → cond b (Ok x) r ≡ Err why → (b ≡ false) × (r ≡ Err why)
in_place true x r why e = absurd cc
in_place false x r why e = (refl, e)

in_var : (o : Option ℕ) (r : Result Target ScenarioWhy) (why : ScenarioWhy) → id_by o r ≡ Err why → (o ≡ None) × (r ≡ Err why)
in_var None r why e = (refl, e)
in_var (Some var) r why e = absurd cc

-- what is wrong where a number may stand doesn't stand in place of one
not_in_place : (d : Draft) (slot : Slot) (word : List ℕ) → takes_numbers slot ≡ true → ((bits : ℕ) → number_of word ≡ Some bits → ReplacesNumber slot word → ⊥)
    → (why : ScenarioWhy) → IsUnfit d slot word why → ReplacesNumber slot word → ⊥
not_in_place d slot word is apart Word wrong = absurd (spells slot word is wrong)
not_in_place d slot word is apart Number wrong = wrong.other
not_in_place d slot word is apart Range wrong = apart wrong.number wrong.value
not_in_place d slot word is apart UnknownName wrong = absurd (knows d slot word is wrong)
not_in_place d slot word is apart Repeated wrong = absurd (gives d slot word is wrong)
not_in_place d slot word is apart _ wrong = absurd wrong

pub some_none : {X : Type 0} (o : Option X) (x : X) → o ≡ None → o ≡ Some x → ⊥
some_none {X} o x none is = let same : ◌≡◌ {A = Option X} None (Some x) = sym none ∙ is in cc

none_from : {X : Type 0} (o : Option X) → ((x : X) → o ≡ Some x → ⊥) → o ≡ None
none_from None other = refl
none_from (Some x) other = absurd (other x refl)

differs : (a b : List ℕ) → (a ≡ b → ⊥) → bytes_eq a b ≡ false
differs a b other = false_from_ne_true (bytes_eq a b) (λ same. other (text_is a b same))

same_not : (a b : List ℕ) → bytes_eq a b ≡ false → a ≡ b → ⊥
same_not a b e is = false≢true (sym e ∙ subst (λ (x : List ℕ). bytes_eq a x ≡ true) is (text_same a))

given_told : (d : Draft) (slot : Slot) (word : List ℕ) → Takes d slot is_short → (ReplacesNumber slot word → ⊥) → (why : ScenarioWhy) → given_operand word ≡ Err why → IsUnfit d slot word why
given_told d slot word takes alone why e =
    number_told d slot word 0 4294967295 takes alone why (made_err (number_operand 0 4294967295 word) (λ bits. Given bits) why e)

given_refused : (d : Draft) (slot : Slot) (word : List ℕ) → Takes d slot is_short → (why : ScenarioWhy) → IsUnfit d slot word why → given_operand word ≡ Err why
given_refused d slot word takes why wrong =
    err_made (number_operand 0 4294967295 word) (λ bits. Given bits) why (number_refused d slot word 0 4294967295 takes why wrong)

number_no_self : (word : List ℕ) (bits : ℕ) → number_of word ≡ Some bits → word ≡ codes "self" → ⊥
number_no_self word bits e is = same_not word (codes "self") (number_differs (codes "self") word bits self_no_number e) is

id_apart : (word : List ℕ) (bits : ℕ) → number_of word ≡ Some bits → ReplacesNumber (Of Operand.Id) word → ⊥
id_apart word bits e place = elim place [
  | inl h ↦ some_none (var_of word) h.0 (number_no_var word bits e) h.1
  | inr h ↦ number_no_self word bits e h
]

id_told : (d : Draft) (word : List ℕ) (why : ScenarioWhy) → id_operand word ≡ Err why → IsUnfit d (Of Operand.Id) word why
unfolding id_operand fixed_operand
id_told d word why e =
    let v = in_var (var_of word) (fixed_operand word) why e in
    let s = in_place (bytes_eq word (codes "self")) Own (given_operand word) why v.1 in
    given_told d (Of Operand.Id) word (id_holds d)
    (λ place. elim place [
      | inl h ↦ some_none (var_of word) h.0 v.0 h.1
      | inr h ↦ same_not word (codes "self") s.0 h
    ])
    why s.1

id_refused : (d : Draft) (word : List ℕ) (why : ScenarioWhy) → IsUnfit d (Of Operand.Id) word why → id_operand word ≡ Err why
unfolding id_operand fixed_operand
id_refused d word why wrong =
    let alone = not_in_place d (Of Operand.Id) word refl (id_apart word) why wrong in
    let no_var = none_from (var_of word) (λ var is. alone (inl (var, is))) in
    let no_self = differs word (codes "self") (λ is. alone (inr is)) in
    rw (no_var, no_self) (given_refused d (Of Operand.Id) word (id_holds d) why wrong)

address_apart : (word : List ℕ) (bits : ℕ) → number_of word ≡ Some bits → ReplacesNumber (Of Operand.Address) word → ⊥
address_apart word bits e place = some_none (var_of word) place.0 (number_no_var word bits e) place.1

address_told : (d : Draft) (word : List ℕ) (why : ScenarioWhy) → address_operand word ≡ Err why → IsUnfit d (Of Operand.Address) word why
unfolding address_operand
address_told d word why e =
    let v = in_var (var_of word) (given_operand word) why e in
    given_told d (Of Operand.Address) word (address_holds d) (λ place. some_none (var_of word) place.0 v.0 place.1) why v.1

address_refused : (d : Draft) (word : List ℕ) (why : ScenarioWhy) → IsUnfit d (Of Operand.Address) word why → address_operand word ≡ Err why
unfolding address_operand
address_refused d word why wrong =
    let alone = not_in_place d (Of Operand.Address) word refl (address_apart word) why wrong in
    let no_var = none_from (var_of word) (λ var is. alone (var, is)) in
    rw no_var (given_refused d (Of Operand.Address) word (address_holds d) why wrong)

wish_apart : (word : List ℕ) (ticks : ℕ) → number_of word ≡ Some ticks → ReplacesNumber (Of Operand.Wish) word → ⊥
wish_apart word ticks e place = same_not word (codes "nowait") (number_differs (codes "nowait") word ticks nowait_no_number e) place

wish_told : (d : Draft) (word : List ℕ) (why : ScenarioWhy) → wish_operand word ≡ Err why → IsUnfit d (Of Operand.Wish) word why
unfolding wish_operand
wish_told d word why e =
    let n = in_place (bytes_eq word (codes "nowait")) NoWait (number_operand 0 4294967295 word >>= (λ ticks. Ok (Limit ticks))) why e in
    number_told d (Of Operand.Wish) word 0 4294967295 (wish_holds d) (λ place. same_not word (codes "nowait") n.0 place) why (made_err (number_operand 0 4294967295 word) (λ ticks. Limit ticks) why n.1)

wish_refused : (d : Draft) (word : List ℕ) (why : ScenarioWhy) → IsUnfit d (Of Operand.Wish) word why → wish_operand word ≡ Err why
unfolding wish_operand
wish_refused d word why wrong =
    let alone = not_in_place d (Of Operand.Wish) word refl (wish_apart word) why wrong in
    let waits = differs word (codes "nowait") alone in
    rw waits (err_made (number_operand 0 4294967295 word) (λ ticks. Limit ticks) why (number_refused d (Of Operand.Wish) word 0 4294967295 (wish_holds d) why wrong))

goto_told : (d : Draft) (word : List ℕ) (why : ScenarioWhy) → goto_operand d.body.lines word ≡ Err why → IsUnfit d (Of Operand.Earlier) word why
unfolding goto_operand
goto_told d word why e =
    ranged_told d (Of Operand.Earlier) word (λ n. is_target d.body.lines n) (number_of word) (earlier_holds d) (λ other. other) refl why (sym (led_is d.body.lines (number_of word)) ∙ e)

goto_refused : (d : Draft) (word : List ℕ) (why : ScenarioWhy) → IsUnfit d (Of Operand.Earlier) word why → goto_operand d.body.lines word ≡ Err why
unfolding goto_operand
goto_refused d word why wrong = led_is d.body.lines (number_of word) ∙ ranged_refused d (Of Operand.Earlier) word (λ n. is_target d.body.lines n) (earlier_holds d) why wrong

-- ---- words that no number may stand for

named_told : (o : Option ℕ) (why : ScenarioWhy) → named o ≡ Err why → (Word ≡ why) × (o ≡ None)
named_told None why e = (cc, refl)
named_told (Some n) why e = absurd cc

value_told : {X : Type 0} (o : Option X) (why : ScenarioWhy) → given_value o ≡ Err why → (Word ≡ why) × (o ≡ None)
value_told None why e = (cc, refl)
value_told (Some x) why e = absurd cc

name_told : (d : Draft) (word : List ℕ) (why : ScenarioWhy) → name_operand word ≡ Err why → IsUnfit d (Of Operand.Name) word why
unfolding name_operand
name_told d word why e = let n = named_told (name_of word) why e in subst (λ w. IsUnfit d (Of Operand.Name) word w) n.0 n.1

name_refused : (d : Draft) (word : List ℕ) (why : ScenarioWhy) → IsUnfit d (Of Operand.Name) word why → name_operand word ≡ Err why
unfolding name_operand
name_refused d word why wrong = word_only d (Of Operand.Name) word (name_operand word) refl (λ h. h) (λ h. h) (λ none. ap named none) why wrong

pub name_judges : (d : Draft) (word : List ℕ) → Judges (name_operand word) (IsFit d (Of Operand.Name) word) (IsUnfit d (Of Operand.Name) word)
name_judges d word = record {
  fit = λ name e. (name, name_ok word name e);
  taken = λ h. (h.0, name_is word h.0 h.1);
  told = name_told d word;
  refused = name_refused d word;
}

either_told : (first second word : List ℕ) (why : ScenarioWhy) → either_operand first second word ≡ Err why → (Word ≡ why) × ((b : Bool) → IsEither word first second b → ⊥)
unfolding either_operand
either_told first second word why e =
    let s = in_place (bytes_eq word second) true (cond (bytes_eq word first) (Ok false) (Err Word)) why e in
    let f = in_place (bytes_eq word first) false (Err Word) why s.1 in
    (cc, neither f.0 s.0)
  where
    neither : bytes_eq word first ≡ false → bytes_eq word second ≡ false → (b : Bool) → IsEither word first second b → ⊥
    neither f s true is = same_not word second s is
    neither f s false is = same_not word first f is

either_refused : (first second word : List ℕ) → ((b : Bool) → IsEither word first second b → ⊥) → either_operand first second word ≡ Err Word
unfolding either_operand
either_refused first second word neither =
    let no_second = differs word second (λ is. neither true is) in
    let no_first = differs word first (λ is. neither false is) in
    rw (no_second, no_first) refl

-- ---- names of bodies

-- the bodies are called as bodies may be
abbrev pub AreCalled : List Body → Type 0
AreCalled bodies = AllByRecursion (λ body. is_body_name body.name ≡ true) bodies

found_called : (b : ℕ) (word : List ℕ) (bodies : List Body) (n : ℕ) → AreCalled bodies → body_from b word bodies ≡ Some n → is_body_name word ≡ true
found_called b word [] n called e = absurd cc
found_called b word (body ∷ bodies) n called e = go (is_named word body) refl e (λ later. found_called (b + 1) word bodies n called.1 later)
  where
    go : (t : Bool) → is_named word body ≡ t → cond t (Some b) (body_from (b + 1) word bodies) ≡ Some n → (body_from (b + 1) word bodies ≡ Some n → is_body_name word ≡ true) → is_body_name word ≡ true
    go true same e later = subst (λ (w : List ℕ). is_body_name w ≡ true) (text_is body.name word same) called.0
    go false same e later = later e

-- what no body can be called isn't known
pub uncalled : (bodies : List Body) (word : List ℕ) → AreCalled bodies → is_body_name word ≡ false → body_of bodies word ≡ None
uncalled bodies word called e = none_from (body_of bodies word) (λ n is. false≢true (sym e ∙ found_called 0 word bodies n called is))

uncalled_own : (bodies : List Body) (own word : List ℕ) → AreCalled bodies → is_body_name own ≡ true → is_body_name word ≡ false → body_known bodies own word ≡ None
uncalled_own bodies own word called own_called e =
    let none = uncalled bodies word called e in
    let other = differs own word (λ is. false≢true (sym e ∙ subst (λ (w : List ℕ). is_body_name w ≡ true) is own_called)) in
    rw (none, other) refl

-- what is said where this tells the number of a body, if there is one
told_body : (word : List ℕ) (o : Option ℕ) (why : ScenarioWhy) → body_told word o ≡ Err why → ((Word ≡ why) × (is_body_name word ≡ false)) ⊎ ((UnknownName ≡ why) × (is_body_name word ≡ true) × (o ≡ None))
told_body word None why e = go (is_body_name word) refl e
  where
    go : (b : Bool) → is_body_name word ≡ b → cond {A = Result ℕ ScenarioWhy} b (Err UnknownName) (Err Word) ≡ Err why → ((Word ≡ why) × (is_body_name word ≡ false)) ⊎ ((UnknownName ≡ why) × (is_body_name word ≡ true) × (◌≡◌ {A = Option ℕ} None None))
    go true is e = inr (cc, is, refl)
    go false is e = inl (cc, is)
told_body word (Some b) why e = absurd cc

misspelled_body : (word : List ℕ) (o : Option ℕ) → o ≡ None → is_body_name word ≡ false → body_told word o ≡ Err Word
misspelled_body word o none is = rw none (rw is refl)

unknown_body : (word : List ℕ) (o : Option ℕ) → o ≡ None → is_body_name word ≡ true → body_told word o ≡ Err UnknownName
unknown_body word o none is = rw none (rw is refl)

start_told : (d : Draft) (word : List ℕ) (why : ScenarioWhy) → start_operand (known_at d.scenario d.body) word ≡ Err why → IsUnfit d (Of Operand.B) word why
unfolding start_operand
start_told d word why e = elim (told_body word (body_known d.scenario.bodies d.body.name word) why e) [
  | inl h ↦ subst (λ w. IsUnfit d (Of Operand.B) word w) h.0 h.1
  | inr h ↦ subst (λ w. IsUnfit d (Of Operand.B) word w) h.0 (h.1, h.2)
]

start_refused : (d : Draft) (word : List ℕ) → AreCalled d.scenario.bodies → is_body_name d.body.name ≡ true → (why : ScenarioWhy) → IsUnfit d (Of Operand.B) word why → start_operand (known_at d.scenario d.body) word ≡ Err why
unfolding start_operand
start_refused d word called own Word wrong = misspelled_body word (body_known d.scenario.bodies d.body.name word) (uncalled_own d.scenario.bodies d.body.name word called own wrong) wrong
start_refused d word called own Number wrong = absurd (false≢true wrong.numbers)
start_refused d word called own Range wrong = absurd (false≢true wrong.numbers)
start_refused d word called own UnknownName wrong = unknown_body word (body_known d.scenario.bodies d.body.name word) wrong.1 wrong.0
start_refused d word called own _ wrong = absurd wrong

body_told_is_unfit : (d : Draft) (word : List ℕ) (why : ScenarioWhy) → body_operand d.scenario.bodies word ≡ Err why → IsUnfit d WholeBody word why
unfolding body_operand
body_told_is_unfit d word why e = elim (told_body word (body_of d.scenario.bodies word) why e) [
  | inl h ↦ subst (λ w. IsUnfit d WholeBody word w) h.0 h.1
  | inr h ↦ subst (λ w. IsUnfit d WholeBody word w) h.0 (h.1, h.2)
]

body_refused : (d : Draft) (word : List ℕ) → AreCalled d.scenario.bodies → (why : ScenarioWhy) → IsUnfit d WholeBody word why → body_operand d.scenario.bodies word ≡ Err why
unfolding body_operand
body_refused d word called Word wrong = misspelled_body word (body_of d.scenario.bodies word) (uncalled d.scenario.bodies word called wrong) wrong
body_refused d word called Number wrong = absurd (false≢true wrong.numbers)
body_refused d word called Range wrong = absurd (false≢true wrong.numbers)
body_refused d word called UnknownName wrong = unknown_body word (body_of d.scenario.bodies word) wrong.1 wrong.0
body_refused d word called _ wrong = absurd wrong

pub body_judges : (d : Draft) (word : List ℕ) → AreCalled d.scenario.bodies → Judges (body_operand d.scenario.bodies word) (IsFit d WholeBody word) (IsUnfit d WholeBody word)
body_judges d word called = record {
  fit = λ n e. (n, body_ok d.scenario.bodies word n e);
  taken = λ h. (h.0, body_is d.scenario.bodies word h.0 h.1);
  told = body_told_is_unfit d word;
  refused = body_refused d word called;
}

-- ---- operands of the lines of bodies

operand_told : (d : Draft) (o : Operand) (word : List ℕ) (why : ScenarioWhy) → operand_of (known_at d.scenario d.body) o word ≡ Err why → IsUnfit d (Of o) word why
unfolding operand_of name0_operand var_operand semaphore_kind_operand order_operand protocol_operand
operand_told d (Operand.Number least most) word why e = (number_judges d least most word).told why e
operand_told d Operand.Name word why e = name_told d word why e
operand_told d Operand.Name0 word why e = let n = named_told (name0_of word) why e in subst (λ w. IsUnfit d (Of Operand.Name0) word w) n.0 n.1
operand_told d Operand.Var word why e = let n = value_told (var_of word) why e in subst (λ w. IsUnfit d (Of Operand.Var) word w) n.0 n.1
operand_told d Operand.Id word why e = id_told d word why e
operand_told d Operand.Address word why e = address_told d word why e
operand_told d Operand.Cluster word why e = (cluster_judges d word).told why e
operand_told d Operand.B word why e = start_told d word why e
operand_told d Operand.Earlier word why e = goto_told d word why e
operand_told d Operand.Mode word why e = let n = either_told (codes "any") (codes "all") word why e in subst (λ w. IsUnfit d (Of Operand.Mode) word w) n.0 n.1
operand_told d Operand.Kind word why e = let n = either_told (codes "manual") (codes "auto") word why e in subst (λ w. IsUnfit d (Of Operand.Kind) word w) n.0 n.1
operand_told d Operand.Wish word why e = wish_told d word why e
operand_told d Operand.SemaphoreKind word why e = let n = value_told (semaphore_kind_of word) why e in subst (λ w. IsUnfit d (Of Operand.SemaphoreKind) word w) n.0 n.1
operand_told d Operand.Order word why e = let n = value_told (order_of word) why e in subst (λ w. IsUnfit d (Of Operand.Order) word w) n.0 n.1
operand_told d Operand.Protocol word why e = let n = value_told (protocol_of word) why e in subst (λ w. IsUnfit d (Of Operand.Protocol) word w) n.0 n.1

operand_refused : (d : Draft) (o : Operand) (word : List ℕ) → AreCalled d.scenario.bodies → is_body_name d.body.name ≡ true → (why : ScenarioWhy) → IsUnfit d (Of o) word why → operand_of (known_at d.scenario d.body) o word ≡ Err why
unfolding operand_of name0_operand var_operand semaphore_kind_operand order_operand protocol_operand
operand_refused d (Operand.Number least most) word called own why wrong = (number_judges d least most word).refused why wrong
operand_refused d Operand.Name word called own why wrong = name_refused d word why wrong
operand_refused d Operand.Name0 word called own why wrong = word_only d (Of Operand.Name0) word (name0_operand word) refl (λ h. h) (λ h. h) (λ none. ap named none) why wrong
operand_refused d Operand.Var word called own why wrong = word_only d (Of Operand.Var) word (var_operand word) refl (λ h. h) (λ h. h) (λ none. ap given_value none) why wrong
operand_refused d Operand.Id word called own why wrong = id_refused d word why wrong
operand_refused d Operand.Address word called own why wrong = address_refused d word why wrong
operand_refused d Operand.Cluster word called own why wrong = (cluster_judges d word).refused why wrong
operand_refused d Operand.B word called own why wrong = start_refused d word called own why wrong
operand_refused d Operand.Earlier word called own why wrong = goto_refused d word why wrong
operand_refused d Operand.Mode word called own why wrong =
    word_only d (Of Operand.Mode) word (either_operand (codes "any") (codes "all") word) refl (λ h. h) (λ h. h) (λ neither. either_refused (codes "any") (codes "all") word neither) why wrong
operand_refused d Operand.Kind word called own why wrong =
    word_only d (Of Operand.Kind) word (either_operand (codes "manual") (codes "auto") word) refl (λ h. h) (λ h. h) (λ neither. either_refused (codes "manual") (codes "auto") word neither) why wrong
operand_refused d Operand.Wish word called own why wrong = wish_refused d word why wrong
operand_refused d Operand.SemaphoreKind word called own why wrong =
    word_only d (Of Operand.SemaphoreKind) word (semaphore_kind_operand word) refl (λ h. h) (λ h. h) (λ none. ap given_value none) why wrong
operand_refused d Operand.Order word called own why wrong = word_only d (Of Operand.Order) word (order_operand word) refl (λ h. h) (λ h. h) (λ none. ap given_value none) why wrong
operand_refused d Operand.Protocol word called own why wrong = word_only d (Of Operand.Protocol) word (protocol_operand word) refl (λ h. h) (λ h. h) (λ none. ap given_value none) why wrong

pub operand_judges : (d : Draft) (o : Operand) (word : List ℕ) → AreCalled d.scenario.bodies → is_body_name d.body.name ≡ true
    → Judges (operand_of (known_at d.scenario d.body) o word) (IsFit d (Of o) word) (IsUnfit d (Of o) word)
operand_judges d o word called own = record {
  fit = λ value e. (value, operand_ok (known_at d.scenario d.body) o word value e);
  taken = λ h. (h.0, operand_is (known_at d.scenario d.body) o word h.0 h.1);
  told = operand_told d o word;
  refused = operand_refused d o word called own;
}
