-- What is wrong with a line is what the machine says of it.
use Rattle.std.proofs.Common.{◌≡◌, ℕ, suc, ◌+◌, ◌≤◌, ◌<◌, Bool, true, false, cond, not, ◌&&◌, ◌⊎◌, inl, inr, List, [], ◌∷◌, length, map, Option, Some, None, Result, Ok, Err, codes, refl, sym, ap, subst, ◌∙◌, arith}
use Rattle.std.specs.Prelude.{nat_le, nat_lt, is_some}
use Rattle.std.specs.Option.{option_map}
use Rattle.std.specs.Str.{bytes_eq}
use Rattle.std.proofs.lemmas.Bool.{ltb-false, le-ltb, lt-leb, leb-false, false≢true}
use Rattle.rk_model.proofs.BooleanLemmas.{and_false}
use Rattle.rk_model.specs.declared.scenario.Op.{Op}
use Rattle.rk_model.specs.declared.scenario.ScenarioWhy.{ScenarioWhy}
use Rattle.rk_model.specs.declared.scenario.ScenarioWhy.TheVariants.{Word, Number, Range, Repeated, TooMany}
use Rattle.rk_model.specs.Text.Words.{number_of, is_body_name}
use Rattle.rk_model.specs.Text.Forms.{Operand, Makes, Form, Row, form_of, form_in}
use Rattle.rk_model.specs.Text.Scenarios.{body_of, cpus_in}
use Rattle.rk_model.specs.Text.Reading.{◌>>=◌, Phase, Start, Headed, Clustered, Timed, Limited, InBody, InInits, Draft, known_at, number_operand, name_operand, cluster_operand, body_operand, operand_of, fits, made_of, form_line, line_like, op_line, is_end, with_cluster, with_body, with_op, with_init, cluster_line, ticks_line, limit_line, body_line, inner_line, init_operands, init_line, at_headed, at_limited, at_inits, in_body, after_statement}
use Rattle.rk_scenario.specs.Reasons.{Slot, Of, NewBody, LineKind, ClusterLine, TicksLine, LimitLine, BodyLine, OpLine, EndLine, InitLine, operands_in, slots_of, kind_at, IsFit, AreFit, IsUnfit, FirstUnfitIs, HasNoRoom}
use Rattle.rk_scenario.proofs.SpellingLemmas.{text_is, number_ok}
use Rattle.rk_scenario.proofs.NumberLemmas.{has_room}
use Rattle.rk_scenario.proofs.OperandReasonLemmas.{Judges, told_of, bind_judges, done_judges, some_none, AreCalled, number_judges, cluster_judges, name_judges, body_judges, operand_judges}

-- ---- what is wrong with a line of a kind

-- there is a word too few or too many
abbrev IsMiscounted : LineKind → List (List ℕ) → ScenarioWhy → Type 0
IsMiscounted kind words why = (length words ≡ length (slots_of kind) → ⊥) × (Word ≡ why)

-- each word is right, and there is no room
abbrev IsUnroomed : Draft → LineKind → List (List ℕ) → ScenarioWhy → Type 0
IsUnroomed d kind words why = HasNoRoom d kind words × (TooMany ≡ why)

-- what is wrong with the words behind the first of a line of a kind
abbrev pub IsWrong : Draft → LineKind → List (List ℕ) → ScenarioWhy → Type 0
IsWrong d kind words why =
    IsMiscounted kind words why ⊎ ((length words ≡ length (slots_of kind)) × (FirstUnfitIs d (slots_of kind) words why ⊎ (AreFit d (slots_of kind) words × IsUnroomed d kind words why)))

-- A result is refused for a reason exactly where that is wrong.
pub record Tells (r : Result Draft ScenarioWhy) (Wrong : ScenarioWhy → Type 0) : Type 0 where
  pub told : (why : ScenarioWhy) → r ≡ Err why → Wrong why
  pub refused : (why : ScenarioWhy) → Wrong why → r ≡ Err why

miscounted : (d : Draft) (kind : LineKind) (words : List (List ℕ)) → (length words ≡ length (slots_of kind) → ⊥) → Tells (Err Word) (IsWrong d kind words)
miscounted d kind words differ = record {
  told = λ why e. inl (differ, cc);
  refused = λ why wrong. elim wrong [
    | inl h ↦ ap (λ (w : ScenarioWhy). Err w) h.1
    | inr h ↦ absurd (differ h.0)
  ];
}

-- what is told once the words are right, or which of them isn't
roomed : {A : Type 0} (d : Draft) (kind : LineKind) (words : List (List ℕ)) (r : Result A ScenarioWhy) (f : A → Result Draft ScenarioWhy) → length words ≡ length (slots_of kind)
    → Judges r (AreFit d (slots_of kind) words) (FirstUnfitIs d (slots_of kind) words) → ((x : A) → r ≡ Ok x → Tells (f x) (IsUnroomed d kind words)) → Tells (r >>= f) (IsWrong d kind words)
roomed d kind words (Ok x) f count judges next =
    let after = next x refl in
    record {
      told = λ why e. inr (count, inr (judges.fit x refl, after.told why e));
      refused = λ why wrong. elim wrong [
        | inl h ↦ absurd (h.0 count)
        | inr h ↦ elim h.1 [
          | inl unfit ↦ let no_err = judges.refused why unfit in absurd cc
          | inr both ↦ after.refused why both.1
        ]
      ];
    }
roomed {A} d kind words (Err is) f count judges next = record {
  told = λ why e. let same : is ≡ why = cc in inr (count, inl (subst (λ w. FirstUnfitIs d (slots_of kind) words w) same (judges.told is refl)));
  refused = λ why wrong. elim wrong [
    | inl h ↦ absurd (h.0 count)
    | inr h ↦ elim h.1 [
      | inl unfit ↦ let same : ◌≡◌ {A = Result A ScenarioWhy} (Err is) (Err why) = judges.refused why unfit in cc
      | inr both ↦ let t = judges.taken both.0 in absurd (let no_ok : ◌≡◌ {A = Result A ScenarioWhy} (Err is) (Ok t.0) = t.1 in cc)
    ]
  ];
}

-- what is told where there is always room
always_room : (d next : Draft) (kind : LineKind) (words : List (List ℕ)) → (HasNoRoom d kind words → ⊥) → Tells (Ok next) (IsUnroomed d kind words)
always_room d next kind words room = record { told = λ why e. absurd cc; refused = λ why wrong. absurd (room wrong.0) }

-- what is told where a test says whether there is room
test_room : (d next : Draft) (kind : LineKind) (words : List (List ℕ)) (test : Bool) → (test ≡ false → HasNoRoom d kind words) → (HasNoRoom d kind words → test ≡ false) → Tells (cond test (Ok next) (Err TooMany)) (IsUnroomed d kind words)
test_room d next kind words true none some = record { told = λ why e. absurd cc; refused = λ why wrong. absurd (false≢true (sym (some wrong.0))) }
test_room d next kind words false none some = record { told = λ why e. (none refl, cc); refused = λ why wrong. ap (λ (w : ScenarioWhy). Err w) wrong.1 }

-- what is told of the word of the only slot
single : {A : Type 0} (d : Draft) (slot : Slot) (word : List ℕ) (r : Result A ScenarioWhy) → Judges r (IsFit d slot word) (IsUnfit d slot word) → Judges r (AreFit d (slot ∷ []) (word ∷ [])) (FirstUnfitIs d (slot ∷ []) (word ∷ []))
single d slot word r judges = record {
  fit = λ x e. (judges.fit x e, tt);
  taken = λ both. judges.taken both.0;
  told = λ why e. inl (judges.told why e);
  refused = λ why wrong. elim wrong [
    | inl h ↦ judges.refused why h
    | inr h ↦ absurd h.1
  ];
}

-- ---- lines outside bodies

-- with a cluster of m processors there are too many
abbrev IsOver : Draft → ℕ → Type 0
IsOver d m = (4 ≤ length d.scenario.clusters) ⊎ (8 < cpus_in d.scenario.clusters + m)

over_full : (d : Draft) (m : ℕ) → has_room d.scenario.clusters m ≡ false → IsOver d m
over_full d m e = go (nat_lt (length d.scenario.clusters) 4) refl e
  where
    go : (few : Bool) → nat_lt (length d.scenario.clusters) 4 ≡ few → (few && nat_le (cpus_in d.scenario.clusters + m) 8) ≡ false → IsOver d m
    go true few e = inr (leb-false (cpus_in d.scenario.clusters + m) 8 e)
    go false few e = inl (ltb-false (length d.scenario.clusters) 4 few)

full_over : (d : Draft) (m : ℕ) → IsOver d m → has_room d.scenario.clusters m ≡ false
full_over d m over = elim over [
  | inl h ↦ let few : nat_lt (length d.scenario.clusters) 4 ≡ false = le-ltb (length d.scenario.clusters) 4 h in rw few refl
  | inr h ↦ let much : nat_le (cpus_in d.scenario.clusters + m) 8 ≡ false = lt-leb (cpus_in d.scenario.clusters + m) 8 h in ap (λ (b : Bool). nat_lt (length d.scenario.clusters) 4 && b) much ∙ and_false (nat_lt (length d.scenario.clusters) 4)
]

cluster_room : (d : Draft) (count : List ℕ) (m : ℕ) → number_of count ≡ Some m → Tells (cond (has_room d.scenario.clusters m) (Ok (with_cluster d m)) (Err TooMany)) (IsUnroomed d ClusterLine (count ∷ []))
cluster_room d count m is =
    test_room d (with_cluster d m) ClusterLine (count ∷ []) (has_room d.scenario.clusters m)
    (λ none. elim (over_full d m none) [
      | inl h ↦ inl h
      | inr h ↦ inr (m, is, h)
    ])
    (λ none. elim none [
      | inl h ↦ full_over d m (inl h)
      | inr h ↦ let same : Some m ≡ Some h.0 = sym is ∙ h.1 in let equal : h.0 ≡ m = cc in full_over d m (inr (subst (λ (k : ℕ). 8 < cpus_in d.scenario.clusters + k) equal h.2))
    ])

cluster_tells : (d : Draft) (words : List (List ℕ)) → Tells (cluster_line d words) (IsWrong d ClusterLine words)
unfolding cluster_line
cluster_tells d [] = miscounted d ClusterLine [] (λ same. absurd cc)
cluster_tells d (count ∷ []) =
    roomed d ClusterLine (count ∷ []) (number_operand 1 8 count) (λ m. cond (has_room d.scenario.clusters m) (Ok (with_cluster d m)) (Err TooMany)) refl
    (single d (Of (Operand.Number 1 8)) count (number_operand 1 8 count) (number_judges d 1 8 count))
    (λ m e. let number = number_ok 1 8 count m e in cluster_room d count m number.value)
cluster_tells d (count ∷ more ∷ words) = miscounted d ClusterLine (count ∷ more ∷ words) (λ same. omega (arith, same))

ticks_tells : (d : Draft) (words : List (List ℕ)) → Tells (ticks_line d words) (IsWrong d TicksLine words)
unfolding ticks_line
ticks_tells d [] = miscounted d TicksLine [] (λ same. absurd cc)
ticks_tells d (ticks ∷ []) =
    roomed d TicksLine (ticks ∷ []) (number_operand 0 1000000 ticks) (λ n. Ok (record d { phase = Timed; scenario = record d.scenario { horizon = n } })) refl
    (single d (Of (Operand.Number 0 1000000)) ticks (number_operand 0 1000000 ticks) (number_judges d 0 1000000 ticks))
    (λ n e. always_room d (record d { phase = Timed; scenario = record d.scenario { horizon = n } }) TicksLine (ticks ∷ []) (λ h. h))
ticks_tells d (ticks ∷ more ∷ words) = miscounted d TicksLine (ticks ∷ more ∷ words) (λ same. omega (arith, same))

limit_tells : (d : Draft) (words : List (List ℕ)) → Tells (limit_line d words) (IsWrong d LimitLine words)
unfolding limit_line
limit_tells d [] = miscounted d LimitLine [] (λ same. absurd cc)
limit_tells d (number ∷ []) =
    roomed d LimitLine (number ∷ []) (number_operand 1 1000000 number) (λ n. Ok (record d { phase = Limited; scenario = record d.scenario { limit = n } })) refl
    (single d (Of (Operand.Number 1 1000000)) number (number_operand 1 1000000 number) (number_judges d 1 1000000 number))
    (λ n e. always_room d (record d { phase = Limited; scenario = record d.scenario { limit = n } }) LimitLine (number ∷ []) (λ h. h))
limit_tells d (number ∷ more ∷ words) = miscounted d LimitLine (number ∷ more ∷ words) (λ same. omega (arith, same))

-- whether a body may have a name, by whether a body could be called so and whether one is
abbrev name_test : Bool → Bool → Result (Unit {0}) ScenarioWhy
name_test called given = cond (not called) (Err Word) (cond given (Err Repeated) (Ok tt))

-- the name of a body that begins is right, or why it isn't
abbrev new_name : Draft → List ℕ → Result (Unit {0}) ScenarioWhy
new_name d name = name_test (is_body_name name) (is_some (body_of d.scenario.bodies name))

some_is : {X : Type 0} (o : Option X) → is_some o ≡ true → (x : X) × (o ≡ Some x)
some_is None e = absurd cc
some_is (Some x) e = (x, refl)

none_is : {X : Type 0} (o : Option X) → is_some o ≡ false → o ≡ None
none_is None e = refl
none_is (Some x) e = absurd cc

new_told : (d : Draft) (name : List ℕ) (why : ScenarioWhy) → new_name d name ≡ Err why → IsUnfit d NewBody name why
new_told d name why e = go (is_body_name name) (is_some (body_of d.scenario.bodies name)) refl refl e
  where
    go : (called given : Bool) → is_body_name name ≡ called → is_some (body_of d.scenario.bodies name) ≡ given → name_test called given ≡ Err why → IsUnfit d NewBody name why
    go false given called is e = told_of (λ w. IsUnfit d NewBody name w) Word called why e
    go true true called is e = let body = some_is (body_of d.scenario.bodies name) is in told_of (λ w. IsUnfit d NewBody name w) Repeated (body.0, called, body.1) why e
    go true false called is e = absurd cc

new_refused : (d : Draft) (name : List ℕ) (why : ScenarioWhy) → IsUnfit d NewBody name why → new_name d name ≡ Err why
new_refused d name Word wrong = rw wrong refl
new_refused d name Number wrong = absurd (false≢true wrong.numbers)
new_refused d name Range wrong = absurd (false≢true wrong.numbers)
new_refused d name Repeated wrong = rw (wrong.1, wrong.2) refl
new_refused d name _ wrong = absurd wrong

new_fit : (d : Draft) (name : List ℕ) → new_name d name ≡ Ok tt → IsFit d NewBody name
new_fit d name e = go (is_body_name name) (is_some (body_of d.scenario.bodies name)) refl refl e
  where
    go : (called given : Bool) → is_body_name name ≡ called → is_some (body_of d.scenario.bodies name) ≡ given → name_test called given ≡ Ok tt → IsFit d NewBody name
    go false given called is e = absurd cc
    go true true called is e = absurd cc
    go true false called is e = (called, none_is (body_of d.scenario.bodies name) is)

new_taken : (d : Draft) (name : List ℕ) → IsFit d NewBody name → new_name d name ≡ Ok tt
new_taken d name h = rw (h.0, h.1) refl

new_judges : (d : Draft) (name : List ℕ) → Judges (new_name d name) (IsFit d NewBody name) (IsUnfit d NewBody name)
new_judges d name = record {
  fit = λ x e. new_fit d name e;
  taken = λ h. (tt, new_taken d name h);
  told = new_told d name;
  refused = new_refused d name;
}

-- the draft in which a body of this name is open
abbrev pub opening : Draft → List ℕ → Draft
opening d name = record d { phase = InBody; body = record { name = name; lines = [] } }

named_step : (called given : Bool) (room : Result Draft ScenarioWhy) → cond (not called) (Err Word) (cond given (Err Repeated) room) ≡ (name_test called given >>= (λ x. room))
named_step false given room = refl
named_step true true room = refl
named_step true false room = refl

-- names that are right, and room behind them
begin_is : (d : Draft) (name : List ℕ) → body_line d (name ∷ []) ≡ (new_name d name >>= (λ x. cond (nat_lt (length d.scenario.bodies) 32) (Ok (opening d name)) (Err TooMany)))
unfolding body_line
begin_is d name = named_step (is_body_name name) (is_some (body_of d.scenario.bodies name)) (cond (nat_lt (length d.scenario.bodies) 32) (Ok (opening d name)) (Err TooMany))

-- what is told where a list must be shorter than so many
few_room : {X : Type 0} (d next : Draft) (kind : LineKind) (words : List (List ℕ)) (xs : List X) (most : ℕ) → HasNoRoom d kind words ≡ (most ≤ length xs) → Tells (cond (nat_lt (length xs) most) (Ok next) (Err TooMany)) (IsUnroomed d kind words)
few_room d next kind words xs most is =
    test_room d next kind words (nat_lt (length xs) most) (λ none. subst (λ x. x) (sym is) (ltb-false (length xs) most none)) (λ none. le-ltb (length xs) most (subst (λ x. x) is none))

body_tells : (d : Draft) (words : List (List ℕ)) → Tells (body_line d words) (IsWrong d BodyLine words)
unfolding body_line
body_tells d [] = miscounted d BodyLine [] (λ same. absurd cc)
body_tells d (name ∷ []) =
    subst (λ (r : Result Draft ScenarioWhy). Tells r (IsWrong d BodyLine (name ∷ []))) (sym (begin_is d name))
    (roomed d BodyLine (name ∷ []) (new_name d name) (λ x. cond (nat_lt (length d.scenario.bodies) 32) (Ok (opening d name)) (Err TooMany)) refl
    (single d NewBody name (new_name d name) (new_judges d name))
    (λ x e. few_room d (opening d name) BodyLine (name ∷ []) d.scenario.bodies 32 refl))
body_tells d (name ∷ more ∷ words) = miscounted d BodyLine (name ∷ more ∷ words) (λ same. omega (arith, same))

-- the words behind `init`, once there are four of them
init_judges : (d : Draft) (name cluster priority body : List ℕ) → AreCalled d.scenario.bodies
    → Judges (init_operands d.scenario (name ∷ cluster ∷ priority ∷ body ∷ [])) (AreFit d (slots_of InitLine) (name ∷ cluster ∷ priority ∷ body ∷ [])) (FirstUnfitIs d (slots_of InitLine) (name ∷ cluster ∷ priority ∷ body ∷ []))
unfolding init_operands
init_judges d name cluster priority body called =
    bind_judges (name_operand name) _ _ _ _ _ (name_judges d name) (λ n n-is.
    bind_judges (cluster_operand (length d.scenario.clusters) cluster) _ _ _ _ _ (cluster_judges d cluster) (λ c c-is.
    bind_judges (number_operand 1 255 priority) _ _ _ _ _ (number_judges d 1 255 priority) (λ p p-is.
    bind_judges (body_operand d.scenario.bodies body) _ _ _ _ _ (body_judges d body called) (λ b b-is. done_judges _))))

init_tells : (d : Draft) (words : List (List ℕ)) → AreCalled d.scenario.bodies → Tells (init_line d words) (IsWrong d InitLine words)
unfolding init_line init_operands
init_tells d [] called = miscounted d InitLine [] (λ same. absurd cc)
init_tells d (name ∷ []) called = miscounted d InitLine (name ∷ []) (λ same. omega (arith, same))
init_tells d (name ∷ cluster ∷ []) called = miscounted d InitLine (name ∷ cluster ∷ []) (λ same. omega (arith, same))
init_tells d (name ∷ cluster ∷ priority ∷ []) called = miscounted d InitLine (name ∷ cluster ∷ priority ∷ []) (λ same. omega (arith, same))
init_tells d (name ∷ cluster ∷ priority ∷ body ∷ []) called =
    roomed d InitLine (name ∷ cluster ∷ priority ∷ body ∷ []) (init_operands d.scenario (name ∷ cluster ∷ priority ∷ body ∷ [])) (λ init. cond (nat_lt (length d.scenario.inits) 64) (Ok (with_init d init)) (Err TooMany)) refl
    (init_judges d name cluster priority body called)
    (λ init e. few_room d (with_init d init) InitLine (name ∷ cluster ∷ priority ∷ body ∷ []) d.scenario.inits 64 refl)
init_tells d (name ∷ cluster ∷ priority ∷ body ∷ more ∷ words) called = miscounted d InitLine (name ∷ cluster ∷ priority ∷ body ∷ more ∷ words) (λ same. omega (arith, same))

-- ---- lines of bodies

-- there is a word for each operand
fits_count : (operands : List Operand) (words : List (List ℕ)) → fits operands words ≡ true → length words ≡ length (map Of operands)
fits_count [] [] e = refl
fits_count [] (word ∷ words) e = absurd cc
fits_count (o ∷ operands) [] e = absurd cc
fits_count (o ∷ operands) (word ∷ words) e = ap suc (fits_count operands words e)

count_fits : (operands : List Operand) (words : List (List ℕ)) → length words ≡ length (map Of operands) → fits operands words ≡ true
count_fits [] [] e = refl
count_fits [] (word ∷ words) e = absurd cc
count_fits (o ∷ operands) [] e = absurd cc
count_fits (o ∷ operands) (word ∷ words) e = count_fits operands words (let more : suc (length words) ≡ suc (length (map Of operands)) = e in omega (arith, more))

made_judges : (d : Draft) (operands : List Operand) (made : Makes operands) (words : List (List ℕ)) → AreCalled d.scenario.bodies → is_body_name d.body.name ≡ true → fits operands words ≡ true
    → Judges (made_of (known_at d.scenario d.body) operands made words) (AreFit d (map Of operands) words) (FirstUnfitIs d (map Of operands) words)
made_judges d [] made [] called own fit = done_judges made
made_judges d [] made (word ∷ words) called own fit = absurd cc
made_judges d (o ∷ operands) made [] called own fit = absurd cc
made_judges d (o ∷ operands) made (word ∷ words) called own fit =
    bind_judges (operand_of (known_at d.scenario d.body) o word) (λ value. made_of (known_at d.scenario d.body) operands (made value) words) _ _ _ _ (operand_judges d o word called own)
    (λ value is. made_judges d operands (made value) words called own fit)

-- the draft after a line of a body of this form
abbrev pub form_step : Draft → Form → List (List ℕ) → Result Draft ScenarioWhy
form_step d form words = form_line (known_at d.scenario d.body) form words >>= (λ op. cond (nat_lt (length d.body.lines) 1000) (Ok (with_op d op)) (Err TooMany))

form_tells : (d : Draft) (kind : LineKind) (form : Form) (words : List (List ℕ)) → AreCalled d.scenario.bodies → is_body_name d.body.name ≡ true → slots_of kind ≡ map Of (operands_in form)
    → HasNoRoom d kind words ≡ (1000 ≤ length d.body.lines) → Tells (form_step d form words) (IsWrong d kind words)
unfolding form_line
form_tells d kind (Row first operands made) words called own slots room = go (fits operands words) refl
  where
    go : (fit : Bool) → fits operands words ≡ fit
        → Tells (cond fit (made_of (known_at d.scenario d.body) operands made words) (Err Word) >>= (λ op. cond (nat_lt (length d.body.lines) 1000) (Ok (with_op d op)) (Err TooMany))) (IsWrong d kind words)
    go true fit =
        roomed d kind words (made_of (known_at d.scenario d.body) operands made words) (λ op. cond (nat_lt (length d.body.lines) 1000) (Ok (with_op d op)) (Err TooMany))
        (subst (λ (xs : List Slot). length words ≡ length xs) (sym slots) (fits_count operands words fit))
        (subst (λ (xs : List Slot). Judges (made_of (known_at d.scenario d.body) operands made words) (AreFit d xs words) (FirstUnfitIs d xs words)) (sym slots) (made_judges d operands made words called own fit))
        (λ op e. few_room d (with_op d op) kind words d.body.lines 1000 room)
    go false fit = miscounted d kind words (λ same. false≢true (sym fit ∙ count_fits operands words (subst (λ (xs : List Slot). length words ≡ length xs) slots same)))

-- ---- lines of a kind

-- the draft after a line of a kind
abbrev pub step_of : Draft → LineKind → List (List ℕ) → Result Draft ScenarioWhy
step_of d ClusterLine words = cluster_line d words
step_of d TicksLine words = ticks_line d words
step_of d LimitLine words = limit_line d words
step_of d BodyLine words = body_line d words
step_of d (OpLine op) words = form_step d (form_of op) words
step_of d EndLine [] = Ok (with_body d)
step_of d EndLine (word ∷ words) = Err Word
step_of d InitLine words = init_line d words

-- the open body is called as bodies may be, where a line of this kind wants one
abbrev pub KnowsOwn : LineKind → List ℕ → Type 0
KnowsOwn (OpLine op) name = is_body_name name ≡ true
KnowsOwn EndLine name = is_body_name name ≡ true
KnowsOwn _ name = Unit {0}

end_tells : (d : Draft) (words : List (List ℕ)) → Tells (step_of d EndLine words) (IsWrong d EndLine words)
end_tells d [] = record {
  told = λ why e. absurd cc;
  refused = λ why wrong. elim wrong [
    | inl h ↦ absurd (h.0 refl)
    | inr h ↦ elim h.1 [
      | inl unfit ↦ absurd unfit
      | inr both ↦ absurd both.1.0
    ]
  ];
}
end_tells d (word ∷ words) = miscounted d EndLine (word ∷ words) (λ same. omega (arith, same))

kind_tells : (d : Draft) (kind : LineKind) (words : List (List ℕ)) → AreCalled d.scenario.bodies → KnowsOwn kind d.body.name → Tells (step_of d kind words) (IsWrong d kind words)
kind_tells d ClusterLine words called own = cluster_tells d words
kind_tells d TicksLine words called own = ticks_tells d words
kind_tells d LimitLine words called own = limit_tells d words
kind_tells d BodyLine words called own = body_tells d words
kind_tells d (OpLine op) words called own = form_tells d (OpLine op) (form_of op) words called own refl refl
kind_tells d EndLine words called own = end_tells d words
kind_tells d InitLine words called own = init_tells d words called

-- ---- lines behind the header

-- the draft after a line of this kind, if it is of one
abbrev pub step_by : Draft → Option LineKind → List (List ℕ) → Result Draft ScenarioWhy
step_by d None words = Err Word
step_by d (Some kind) words = step_of d kind words

-- what is wrong with a line of this kind, if it is of one
abbrev pub IsWrongBy : Draft → Option LineKind → List (List ℕ) → ScenarioWhy → Type 0
IsWrongBy d o words why = ((o ≡ None) × (Word ≡ why)) ⊎ ((kind : LineKind) × (o ≡ Some kind) × IsWrong d kind words why)

step_tells : (d : Draft) (o : Option LineKind) (words : List (List ℕ)) → AreCalled d.scenario.bodies → ((kind : LineKind) → o ≡ Some kind → KnowsOwn kind d.body.name) → Tells (step_by d o words) (IsWrongBy d o words)
step_tells d None words called own = record {
  told = λ why e. inl (refl, cc);
  refused = λ why wrong. elim wrong [
    | inl h ↦ ap (λ (w : ScenarioWhy). Err w) h.1
    | inr h ↦ absurd (some_none None h.0 refl h.1)
  ];
}
step_tells d (Some kind) words called own =
    let tells = kind_tells d kind words called (own kind refl) in
    record {
      told = λ why e. inr (kind, refl, tells.told why e);
      refused = λ why wrong. elim wrong [
        | inl h ↦ absurd (some_none (Some kind) kind h.0 refl)
        | inr h ↦ let same : h.0 ≡ kind = cc (h.1) in tells.refused why (subst (λ (k : LineKind). IsWrong d k words why) same h.2)
      ];
    }

step_if : (d : Draft) (b : Bool) (kind : LineKind) (o : Option LineKind) (words : List (List ℕ)) (r : Result Draft ScenarioWhy) → r ≡ step_by d o words → cond b (step_of d kind words) r ≡ step_by d (cond b (Some kind) o) words
step_if d true kind o words r is = refl
step_if d false kind o words r is = is

headed_is : (d : Draft) (first : List ℕ) (words : List (List ℕ)) → at_headed d (first ∷ words) ≡ step_by d (kind_at Headed first) words
headed_is d first words = step_if d (bytes_eq first (codes "cluster")) ClusterLine None words (Err Word) refl

inits_is : (d : Draft) (first : List ℕ) (words : List (List ℕ)) → at_inits d (first ∷ words) ≡ step_by d (kind_at InInits first) words
inits_is d first words = step_if d (bytes_eq first (codes "init")) InitLine None words (Err Word) refl

limited_is : (d : Draft) (first : List ℕ) (words : List (List ℕ)) → at_limited d (first ∷ words) ≡ step_by d (kind_at Limited first) words
limited_is d first words = step_if d (bytes_eq first (codes "body")) BodyLine (kind_at InInits first) words (at_inits d (first ∷ words)) (inits_is d first words)

inner_is : (d : Draft) (first : List ℕ) (words : List (List ℕ)) → inner_line d (first ∷ words) ≡ step_by d (option_map OpLine (form_in first)) words
unfolding inner_line op_line
inner_is d first words = like (form_in first)
  where
    like : (o : Option Op) → (line_like (known_at d.scenario d.body) o words >>= (λ op. cond (nat_lt (length d.body.lines) 1000) (Ok (with_op d op)) (Err TooMany))) ≡ step_by d (option_map OpLine o) words
    like None = refl
    like (Some op) = refl

no_end_form : form_in (codes "end") ≡ None
unfolding form_in
no_end_form = refl

in_body_is : (d : Draft) (first : List ℕ) (words : List (List ℕ)) → in_body d (first ∷ words) ≡ step_by d (kind_at InBody first) words
unfolding is_end
in_body_is d first [] = step_if d (bytes_eq first (codes "end")) EndLine (option_map OpLine (form_in first)) [] (inner_line d (first ∷ [])) (inner_is d first [])
in_body_is d first (word ∷ words) = go (bytes_eq first (codes "end")) refl
  where
    go : (b : Bool) → bytes_eq first (codes "end") ≡ b → inner_line d (first ∷ word ∷ words) ≡ step_by d (cond b (Some EndLine) (option_map OpLine (form_in first))) (word ∷ words)
    go true same =
        let none : form_in first ≡ None = rw (text_is first (codes "end") same) no_end_form in
        inner_is d first (word ∷ words) ∙ ap (λ (o : Option Op). step_by d (option_map OpLine o) (word ∷ words)) none
    go false same = inner_is d first (word ∷ words)

-- a line behind the header is a step of its kind
pub statement_is : (p : Phase) (d : Draft) (first : List ℕ) (words : List (List ℕ)) → (p ≡ Start → ⊥) → after_statement p d (first ∷ words) ≡ step_by d (kind_at p first) words
statement_is Start d first words behind = absurd (behind refl)
statement_is Headed d first words behind = headed_is d first words
statement_is Clustered d first words behind = step_if d (bytes_eq first (codes "ticks")) TicksLine (kind_at Headed first) words (at_headed d (first ∷ words)) (headed_is d first words)
statement_is Timed d first words behind = step_if d (bytes_eq first (codes "limit")) LimitLine (kind_at Limited first) words (at_limited d (first ∷ words)) (limited_is d first words)
statement_is Limited d first words behind = limited_is d first words
statement_is InBody d first words behind = in_body_is d first words
statement_is InInits d first words behind = inits_is d first words

-- ---- names of bodies

-- in a body, it is called as bodies may be
abbrev pub IsCalledIn : Phase → List ℕ → Type 0
IsCalledIn InBody name = is_body_name name ≡ true
IsCalledIn _ name = Unit {0}

knows_own : (kind : LineKind) (name : List ℕ) → is_body_name name ≡ true → KnowsOwn kind name
knows_own (OpLine op) name called = called
knows_own EndLine name called = called
knows_own ClusterLine name called = tt
knows_own _ name called = tt

knows_if : (b : Bool) (kind found : LineKind) (o : Option LineKind) (name : List ℕ) → KnowsOwn kind name → (o ≡ Some found → KnowsOwn found name) → cond b (Some kind) o ≡ Some found → KnowsOwn found name
knows_if true kind found o name own rest e = let same : kind ≡ found = cc in subst (λ (k : LineKind). KnowsOwn k name) same own
knows_if false kind found o name own rest e = rest e

knows_none : (found : LineKind) (name : List ℕ) → None ≡ Some found → KnowsOwn found name
knows_none found name e = absurd cc

knows_headed : (first : List ℕ) (kind : LineKind) (name : List ℕ) → kind_at Headed first ≡ Some kind → KnowsOwn kind name
knows_headed first kind name e = knows_if (bytes_eq first (codes "cluster")) ClusterLine kind None name tt (knows_none kind name) e

knows_inits : (first : List ℕ) (kind : LineKind) (name : List ℕ) → kind_at InInits first ≡ Some kind → KnowsOwn kind name
knows_inits first kind name e = knows_if (bytes_eq first (codes "init")) InitLine kind None name tt (knows_none kind name) e

knows_limited : (first : List ℕ) (kind : LineKind) (name : List ℕ) → kind_at Limited first ≡ Some kind → KnowsOwn kind name
knows_limited first kind name e = knows_if (bytes_eq first (codes "body")) BodyLine kind (kind_at InInits first) name tt (knows_inits first kind name) e

pub knows_at : (p : Phase) (first : List ℕ) (kind : LineKind) (name : List ℕ) → IsCalledIn p name → kind_at p first ≡ Some kind → KnowsOwn kind name
knows_at Start first kind name called e = absurd cc
knows_at Headed first kind name called e = knows_headed first kind name e
knows_at Clustered first kind name called e = knows_if (bytes_eq first (codes "ticks")) TicksLine kind (kind_at Headed first) name tt (knows_headed first kind name) e
knows_at Timed first kind name called e = knows_if (bytes_eq first (codes "limit")) LimitLine kind (kind_at Limited first) name tt (knows_limited first kind name) e
knows_at Limited first kind name called e = knows_limited first kind name e
knows_at InBody first kind name called e = knows_own kind name called
knows_at InInits first kind name called e = knows_inits first kind name e

-- what is wrong with a line behind the header
pub statement_tells : (d : Draft) (first : List ℕ) (words : List (List ℕ)) → (d.phase ≡ Start → ⊥) → AreCalled d.scenario.bodies → IsCalledIn d.phase d.body.name
    → Tells (after_statement d.phase d (first ∷ words)) (IsWrongBy d (kind_at d.phase first) words)
statement_tells d first words behind called own =
    subst (λ (r : Result Draft ScenarioWhy). Tells r (IsWrongBy d (kind_at d.phase first) words)) (sym (statement_is d.phase d first words behind))
    (step_tells d (kind_at d.phase first) words called (λ kind is. knows_at d.phase first kind d.body.name own is))
