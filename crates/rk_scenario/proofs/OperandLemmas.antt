-- The words of a line of a body are those of the grammar exactly where the machine takes them.
use Rattle.std.proofs.Common.{◌≡◌, ℕ, Bool, true, false, cond, List, [], ◌∷◌, Option, Some, None, Ok, refl, ap, subst, sym, ◌∙◌, codes}
use Rattle.std.specs.Option.{option_map}
use Rattle.std.specs.Str.{bytes_eq}
use Rattle.rk_model.specs.declared.forms.TheConstants.{FORMS}
use Rattle.rk_model.specs.declared.scenario.Op.TheVariants.{Work}
use Rattle.rk_model.specs.declared.scenario.Op.{Op}
use Rattle.rk_model.specs.declared.scenario.ScenarioWhy.TheVariants.{Word}
use Rattle.rk_model.specs.Text.Forms.{Operand, Value, Makes, Form, Row, form_of, word_in, word_of, form_from, form_in}
use Rattle.rk_model.specs.Text.Words.{var_of, semaphore_kind_of, order_of, protocol_of}
use Rattle.rk_model.specs.Text.Scenarios.{Known, IsSpelled, Spell, IsOfForm, IsOp, body_known}
use Rattle.rk_model.specs.Text.Reading.{var_operand, start_operand, semaphore_kind_operand, order_operand, protocol_operand, operand_of, fits, made_of, form_line, line_like, op_line, is_end}
use Rattle.rk_scenario.proofs.SpellingLemmas.{bind_ok, then_ok, ok_is, text_is, number_ok, number_is, cluster_ok, cluster_is, known_ok, known_is, body_told_ok, body_told_is, id_ok, id_is, address_ok, address_is, goto_ok, goto_is, name_ok, name_is, name0_ok, name0_is, either_ok, either_is, wish_ok, wish_is}

-- ---- operands

-- what the machine takes as the word of an operand spells its value
pub operand_ok : (known : Known) (o : Operand) (word : List ℕ) (value : Value o) → operand_of known o word ≡ Ok value → IsSpelled known o word value
unfolding operand_of var_operand start_operand semaphore_kind_operand order_operand protocol_operand
operand_ok known (Operand.Number least most) word n e = number_ok least most word n e
operand_ok known Operand.Name word name e = name_ok word name e
operand_ok known Operand.Name0 word name e = name0_ok word name e
operand_ok known Operand.Var word var e = known_ok (var_of word) var e
operand_ok known Operand.Id word id e = id_ok word id e
operand_ok known Operand.Address word address e = address_ok word address e
operand_ok known Operand.Cluster word c e = cluster_ok known.clusters word c e
operand_ok known Operand.B word body e = body_told_ok word (body_known known.bodies known.own word) body e
operand_ok known Operand.Earlier word n e = goto_ok known.earlier word n e
operand_ok known Operand.Mode word all e = either_ok (codes "any") (codes "all") word all e
operand_ok known Operand.Kind word automatic e = either_ok (codes "manual") (codes "auto") word automatic e
operand_ok known Operand.Wish word wish e = wish_ok word wish e
operand_ok known Operand.SemaphoreKind word kind e = known_ok (semaphore_kind_of word) kind e
operand_ok known Operand.Order word order e = known_ok (order_of word) order e
operand_ok known Operand.Protocol word protocol e = known_ok (protocol_of word) protocol e

-- the machine takes each word that spells a value of an operand, as that value
pub operand_is : (known : Known) (o : Operand) (word : List ℕ) (value : Value o) → IsSpelled known o word value → operand_of known o word ≡ Ok value
unfolding operand_of var_operand start_operand semaphore_kind_operand order_operand protocol_operand
operand_is known (Operand.Number least most) word n h = number_is least most word n h
operand_is known Operand.Name word name h = name_is word name h
operand_is known Operand.Name0 word name h = name0_is word name h
operand_is known Operand.Var word var h = known_is (var_of word) var h
operand_is known Operand.Id word id h = id_is word id h
operand_is known Operand.Address word address h = address_is word address h
operand_is known Operand.Cluster word c h = cluster_is known.clusters word c h
operand_is known Operand.B word body h = body_told_is word (body_known known.bodies known.own word) body h
operand_is known Operand.Earlier word n h = goto_is known.earlier word n h
operand_is known Operand.Mode word all h = either_is (codes "any") (codes "all") word all refl h
operand_is known Operand.Kind word automatic h = either_is (codes "manual") (codes "auto") word automatic refl h
operand_is known Operand.Wish word wish h = wish_is word wish h
operand_is known Operand.SemaphoreKind word kind h = known_is (semaphore_kind_of word) kind h
operand_is known Operand.Order word order h = known_is (order_of word) order h
operand_is known Operand.Protocol word protocol h = known_is (protocol_of word) protocol h

-- ---- forms

made_ok : (known : Known) (operands : List Operand) (made : Makes operands) (words : List (List ℕ)) (op : Op) → made_of known operands made words ≡ Ok op → Spell known operands made words op
made_ok known [] made [] op e = ok_is made op e
made_ok known [] made (word ∷ words) op e = absurd cc
made_ok known (o ∷ operands) made [] op e = absurd cc
made_ok known (o ∷ operands) made (word ∷ words) op e =
    let b = bind_ok (operand_of known o word) (λ value. made_of known operands (made value) words) op e in
    (b.0, operand_ok known o word b.0 b.1, made_ok known operands (made b.0) words op b.2)

made_is : (known : Known) (operands : List Operand) (made : Makes operands) (words : List (List ℕ)) (op : Op) → Spell known operands made words op → made_of known operands made words ≡ Ok op
made_is known [] made [] op h = rw h refl
made_is known [] made (word ∷ words) op h = absurd h
made_is known (o ∷ operands) made [] op h = absurd h
made_is known (o ∷ operands) made (word ∷ words) op h = rw (operand_is known o word h.0 h.1) (made_is known operands (made h.0) words op h.2)

spell_fits : (known : Known) (operands : List Operand) (made : Makes operands) (words : List (List ℕ)) (op : Op) → Spell known operands made words op → fits operands words ≡ true
spell_fits known [] made [] op h = refl
spell_fits known [] made (word ∷ words) op h = absurd h
spell_fits known (o ∷ operands) made [] op h = absurd h
spell_fits known (o ∷ operands) made (word ∷ words) op h = spell_fits known operands (made h.0) words op h.2

form_ok : (known : Known) (form : Form) (words : List (List ℕ)) (op : Op) → form_line known form words ≡ Ok op → IsOfForm known form (word_in form ∷ words) op
unfolding form_line
form_ok known (Row first operands made) words op e =
    let t = then_ok (fits operands words) (made_of known operands made words) Word op e in
    (words, refl, made_ok known operands made words op t.1)

form_is : (known : Known) (form : Form) (words : List (List ℕ)) (op : Op) → IsOfForm known form words op → (rest : List (List ℕ)) × (words ≡ word_in form ∷ rest) × (form_line known form rest ≡ Ok op)
unfolding form_line
form_is known (Row first operands made) words op h = (h.0, h.1, rw (spell_fits known operands made h.0 op h.2) (made_is known operands made h.0 op h.2))

-- ---- keywords

-- what holds of each op that values make
abbrev Always : (Op → Type 0) → (operands : List Operand) → Makes operands → Type 0
Always P [] made = P made
Always P (o ∷ operands) made = (value : Value o) → Always P operands (made value)

always_holds : (P : Op → Type 0) (known : Known) (operands : List Operand) (made : Makes operands) (words : List (List ℕ)) (op : Op) → Always P operands made → Spell known operands made words op → P op
always_holds P known [] made [] op all h = subst P h all
always_holds P known [] made (word ∷ words) op all h = absurd h
always_holds P known (o ∷ operands) made [] op all h = absurd h
always_holds P known (o ∷ operands) made (word ∷ words) op all h = always_holds P known operands (made h.0) words op (all h.0) h.2

-- what holds of each op of a form
abbrev AlwaysOf : (Op → Type 0) → Form → Type 0
AlwaysOf P (Row first operands made) = Always P operands made

always_of : (P : Op → Type 0) (known : Known) (form : Form) (words : List (List ℕ)) (op : Op) → AlwaysOf P form → IsOfForm known form words op → P op
always_of P known (Row first operands made) words op all h = always_holds P known operands made h.0 op all h.2

-- each op that the form of an op makes has that form
own_form : (op : Op) → AlwaysOf (λ made. form_of made ≡ form_of op) (form_of op)
own_form (Work n) = λ m. refl
own_form _ = search

-- a form is found by its first word
found : (op : Op) → option_map form_of (form_in (word_of op)) ≡ Some (form_of op)
unfolding form_in
found (Work n) = refl
found _ = refl

-- no line of a body begins with `end`
not_end : (op : Op) (words : List (List ℕ)) → is_end (word_of op ∷ words) ≡ false
unfolding is_end
not_end (Work n) [] = refl
not_end (Work n) (word ∷ words) = refl
not_end _ [] = refl
not_end _ (word ∷ words) = refl

form_is_of : (ops : List Op) (word : List ℕ) (op : Op) → form_from ops word ≡ Some op → word_of op ≡ word
form_is_of [] word op e = absurd cc
form_is_of (first ∷ ops) word op e = go (bytes_eq (word_of first) word) refl e (form_is_of ops word op)
  where
    go : (b : Bool) → bytes_eq (word_of first) word ≡ b → cond b (Some first) (form_from ops word) ≡ Some op → (form_from ops word ≡ Some op → word_of op ≡ word) → word_of op ≡ word
    go true same e later = let is : first ≡ op = cc in subst (λ (x : Op). word_of x ≡ word) is (text_is (word_of first) word same)
    go false same e later = later e

-- ---- lines of a body

line_like_ok : (known : Known) (o : Option Op) (words : List (List ℕ)) (op : Op) → line_like known o words ≡ Ok op → (like : Op) × (o ≡ Some like) × IsOp known (word_of like ∷ words) op
line_like_ok known None words op e = absurd cc
line_like_ok known (Some like) words op e =
    let is = form_ok known (form_of like) words op e in
    let own : form_of op ≡ form_of like = always_of (λ made. form_of made ≡ form_of like) known (form_of like) (word_of like ∷ words) op (own_form like) is in
    (like, refl, subst (λ (form : Form). IsOfForm known form (word_of like ∷ words) op) (sym own) is)

-- what the machine takes as a line of a body is one
pub op_ok : (known : Known) (words : List (List ℕ)) (op : Op) → op_line known words ≡ Ok op → IsOp known words op
unfolding op_line form_in
op_ok known [] op e = absurd cc
op_ok known (first ∷ words) op e =
    let k = line_like_ok known (form_from FORMS.now first) words op e in
    subst (λ (word : List ℕ). IsOp known (word ∷ words) op) (form_is_of FORMS.now first k.0 k.1) k.2

like_line : (known : Known) (o : Option Op) (form : Form) (words : List (List ℕ)) → option_map form_of o ≡ Some form → line_like known o words ≡ form_line known form words
like_line known None form words e = absurd cc
like_line known (Some op) form words e = let same : form_of op ≡ form = cc in ap (λ (f : Form). form_line known f words) same

-- each line of a body is taken by the machine
pub op_is : (known : Known) (words : List (List ℕ)) (op : Op) → IsOp known words op → op_line known words ≡ Ok op
unfolding op_line
op_is known words op h =
    let line = form_is known (form_of op) words op h in
    rw line.1 (like_line known (form_in (word_of op)) (form_of op) line.0 (found op) ∙ line.2)

-- no line of a body is the end of it
pub op_not_end : (known : Known) (words : List (List ℕ)) (op : Op) → IsOp known words op → is_end words ≡ false
op_not_end known words op h =
    let line = form_is known (form_of op) words op h in
    rw line.1 (not_end op line.0)
