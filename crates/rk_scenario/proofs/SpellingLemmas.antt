-- The words of operands and of init lines are those of the grammar exactly where the machine takes them.
use Rattle.std.proofs.Common.{◌≡◌, ℕ, ◌≤◌, ◌<◌, Bool, true, false, eqb, cond, ◌⊎◌, inl, inr, List, [], ◌∷◌, length, Option, Some, None, Result, Ok, Err, refl, ap, subst, sym, ◌∙◌, arith, codes, ◌&&◌}
use Rattle.std.specs.Prelude.{nat_le, nat_lt}
use Rattle.std.specs.Str.{bytes_eq}
use Rattle.std.proofs.lemmas.Bool.{and_parts, eqb-true, leb-true, le-leb, ltb-true, lt-ltb, false_from_ne_true}
use Rattle.std.proofs.lemmas.Slice.Eq.{bytes_eq-Decides}
use Rattle.rk_model.specs.declared.numbers.Name.{Name as NameOf}
use Rattle.rk_model.specs.declared.scenario.Op.{Op}
use Rattle.rk_model.specs.declared.scenario.Target.{Target}
use Rattle.rk_model.specs.declared.scenario.Target.TheVariants.{Var, Own, Given}
use Rattle.rk_model.specs.declared.scenario.Wish.{Wish}
use Rattle.rk_model.specs.declared.scenario.Wish.TheVariants.{NoWait, Limit}
use Rattle.rk_model.specs.declared.scenario.Body.{Body}
use Rattle.rk_model.specs.declared.scenario.Init.{Init}
use Rattle.rk_model.specs.declared.scenario.Scenario.{Scenario}
use Rattle.rk_model.specs.declared.scenario.ScenarioWhy.{ScenarioWhy}
use Rattle.rk_model.specs.declared.scenario.ScenarioWhy.TheVariants.{Word, Range, UnknownName}
use Rattle.rk_model.specs.Text.Words.{number_of, decimal_of, name_of, name0_of, var_of, is_body_name}
use Rattle.rk_model.specs.Text.Scenarios.{IsNumber, IsClusterNumber, IsId, IsAddress, IsEither, IsWish, IsInit, IsEarlier, body_of, is_target}
use Rattle.rk_model.specs.Text.Reading.{◌>>=◌, within, below, given_value, body_told, named, led, id_by, number_operand, cluster_operand, given_operand, fixed_operand, id_operand, address_operand, goto_operand, name_operand, name0_operand, body_operand, either_operand, wish_operand, init_operands}

-- ---- steps that are taken

pub bind_ok : {A B : Type 0} (r : Result A ScenarioWhy) (f : A → Result B ScenarioWhy) (y : B) → (r >>= f) ≡ Ok y → (x : A) × (r ≡ Ok x) × (f x ≡ Ok y)
bind_ok (Ok x) f y e = (x, refl, e)
bind_ok (Err why) f y e = absurd cc

pub then_ok : {A : Type 0} (b : Bool) (r : Result A ScenarioWhy) (why : ScenarioWhy) (y : A) → cond b r (Err why) ≡ Ok y → (b ≡ true) × (r ≡ Ok y)
then_ok true r why y e = (refl, e)
then_ok false r why y e = absurd cc

pub else_ok : {A : Type 0} (b : Bool) (why : ScenarioWhy) (r : Result A ScenarioWhy) (y : A) → cond b (Err why) r ≡ Ok y → (b ≡ false) × (r ≡ Ok y)
else_ok true why r y e = absurd cc
else_ok false why r y e = (refl, e)

pub branch_ok : {A : Type 0} (b : Bool) (r t : Result A ScenarioWhy) (y : A) → cond b r t ≡ Ok y → ((b ≡ true) × (r ≡ Ok y)) ⊎ ((b ≡ false) × (t ≡ Ok y))
branch_ok true r t y e = inl (refl, e)
branch_ok false r t y e = inr (refl, e)

abbrev done : {A : Type 0} → A → Result A ScenarioWhy
done x = Ok x

pub ok_is : {A : Type 0} (x y : A) → done x ≡ done y → x ≡ y
ok_is x y e = cc

pub text_is : (a b : List ℕ) → bytes_eq a b ≡ true → a ≡ b
text_is a b e = (bytes_eq-Decides a b).0 e

pub text_same : (a : List ℕ) → bytes_eq a a ≡ true
text_same a = (bytes_eq-Decides a a).1 refl

-- ---- operands

within_ok : (least most : ℕ) (o : Option ℕ) (n : ℕ) → within least most o ≡ Ok n → (o ≡ Some n) × (least ≤ n) × (n ≤ most)
within_ok least most None n e = absurd cc
within_ok least most (Some m) n e =
    let t = then_ok (nat_le least m && nat_le m most) (done m) Range n e in
    let both = and_parts (nat_le least m) (nat_le m most) t.0 in
    let same : m ≡ n = ok_is m n t.1 in
    let low : least ≤ m = leb-true least m both.0 in
    let high : m ≤ most = leb-true m most both.1 in
    (ap (λ (k : ℕ). Some k) same, omega arith, omega arith)

pub number_ok : (least most : ℕ) (word : List ℕ) (n : ℕ) → number_operand least most word ≡ Ok n → IsNumber word n least most
unfolding number_operand
number_ok least most word n e = let w = within_ok least most (number_of word) n e in record { value = w.0; low = w.1; high = w.2 }

pub number_is : (least most : ℕ) (word : List ℕ) (n : ℕ) → IsNumber word n least most → number_operand least most word ≡ Ok n
unfolding number_operand
number_is least most word n h =
    let low = le-leb least n h.low in
    let high = le-leb n most h.high in
    rw (h.value, low, high) refl

below_ok : (count : ℕ) (o : Option ℕ) (n : ℕ) → below count o ≡ Ok n → (o ≡ Some n) × (n < count)
below_ok count None n e = absurd cc
below_ok count (Some m) n e =
    let t = then_ok (nat_lt m count) (done m) Range n e in
    let same : m ≡ n = ok_is m n t.1 in
    let lt : m < count = ltb-true m count t.0 in
    (ap (λ (k : ℕ). Some k) same, omega arith)

pub cluster_ok : (count : ℕ) (word : List ℕ) (n : ℕ) → cluster_operand count word ≡ Ok n → IsClusterNumber count word n
unfolding cluster_operand
cluster_ok count word n e = let b = below_ok count (number_of word) n e in record { value = b.0; there = b.1 }

pub cluster_is : (count : ℕ) (word : List ℕ) (n : ℕ) → IsClusterNumber count word n → cluster_operand count word ≡ Ok n
unfolding cluster_operand
cluster_is count word n h = let test = lt-ltb n count h.there in rw (h.value, test) refl

-- a word that spells a number isn't one that spells none
pub number_differs : (other word : List ℕ) (bits : ℕ) → number_of other ≡ None → number_of word ≡ Some bits → bytes_eq word other ≡ false
number_differs other word bits none e = false_from_ne_true (bytes_eq word other) (λ same. some_not_none bits (sym (subst (λ (w : List ℕ). number_of w ≡ Some bits) (text_is word other same) e) ∙ none))
  where
    some_not_none : (n : ℕ) → ◌≡◌ {A = Option ℕ} (Some n) None → ⊥
    some_not_none n e = cc

pub self_no_number : number_of (codes "self") ≡ None
unfolding number_of decimal_of
self_no_number = refl

-- what the machine takes as a number in place of an id or an address is one
given_ok : (word : List ℕ) (target : Target) → given_operand word ≡ Ok target → (bits : ℕ) × (Given bits ≡ target) × IsNumber word bits 0 4294967295
given_ok word target e =
    let b = bind_ok (number_operand 0 4294967295 word) (λ bits. Ok (Given bits)) target e in
    (b.0, ok_is (Given b.0) target b.2, number_ok 0 4294967295 word b.0 b.1)

fixed_ok : (word : List ℕ) (id : Target) → fixed_operand word ≡ Ok id → IsId word id
unfolding fixed_operand
fixed_ok word id e =
    elim (branch_ok (bytes_eq word (codes "self")) (done Own) (given_operand word) id e) [
      | inl h ↦ subst (λ (i : Target). IsId word i) (ok_is Own id h.1) (text_is word (codes "self") h.0)
      | inr h ↦ let g = given_ok word id h.1 in subst (λ (i : Target). IsId word i) g.1 g.2
    ]

-- what begins with a v spells no number
v_no_number : (b bits : ℕ) → number_of (118 ∷ b ∷ []) ≡ Some bits → ⊥
unfolding number_of decimal_of
v_no_number b bits e = cc

number_no_v : (a b bits : ℕ) → number_of (a ∷ b ∷ []) ≡ Some bits → eqb a 118 ≡ false
number_no_v a b bits e = false_from_ne_true (eqb a 118) (λ same. v_no_number b bits (subst (λ (x : ℕ). number_of (x ∷ b ∷ []) ≡ Some bits) (eqb-true a 118 same) e))

-- a word that spells a number spells no variable
pub number_no_var : (word : List ℕ) (bits : ℕ) → number_of word ≡ Some bits → var_of word ≡ None
unfolding number_of decimal_of var_of
number_no_var [] bits e = refl
number_no_var (a ∷ []) bits e = refl
number_no_var (a ∷ b ∷ []) bits e = rw (number_no_v a b bits e) refl
number_no_var (a ∷ b ∷ c ∷ more) bits e = refl

id_by_ok : (o : Option ℕ) (other : Result Target ScenarioWhy) (id : Target) → id_by o other ≡ Ok id → ((var : ℕ) × (o ≡ Some var) × (Var var ≡ id)) ⊎ (other ≡ Ok id)
id_by_ok None other id e = inr e
id_by_ok (Some var) other id e = inl (var, refl, ok_is (Var var) id e)

pub id_ok : (word : List ℕ) (id : Target) → id_operand word ≡ Ok id → IsId word id
unfolding id_operand
id_ok word id e =
    elim (id_by_ok (var_of word) (fixed_operand word) id e) [
      | inl h ↦ subst (λ (i : Target). IsId word i) h.2 h.1
      | inr h ↦ fixed_ok word id h
    ]

pub id_is : (word : List ℕ) (id : Target) → IsId word id → id_operand word ≡ Ok id
unfolding id_operand fixed_operand var_of
id_is word (Var var) h = rw h refl
id_is word Own h = rw h refl
id_is word (Given bits) h = rw (number_no_var word bits h.value, number_differs (codes "self") word bits self_no_number h.value, number_is 0 4294967295 word bits h) refl

pub address_ok : (word : List ℕ) (address : Target) → address_operand word ≡ Ok address → IsAddress word address
unfolding address_operand
address_ok word address e =
    elim (id_by_ok (var_of word) (given_operand word) address e) [
      | inl h ↦ subst (λ (a : Target). IsAddress word a) h.2 h.1
      | inr h ↦ let g = given_ok word address h in subst (λ (a : Target). IsAddress word a) g.1 g.2
    ]

pub address_is : (word : List ℕ) (address : Target) → IsAddress word address → address_operand word ≡ Ok address
unfolding address_operand var_of
address_is word (Var var) h = rw h refl
address_is word Own h = absurd h
address_is word (Given bits) h = rw (number_no_var word bits h.value, number_is 0 4294967295 word bits h) refl

led_ok : (earlier : List Op) (o : Option ℕ) (n : ℕ) → led earlier o ≡ Ok n → (o ≡ Some n) × (is_target earlier n ≡ true)
led_ok earlier None n e = absurd cc
led_ok earlier (Some m) n e =
    let t = then_ok (is_target earlier m) (done m) Range n e in
    let same : m ≡ n = ok_is m n t.1 in
    (ap (λ (k : ℕ). Some k) same, subst (λ (k : ℕ). is_target earlier k ≡ true) same t.0)

pub goto_ok : (earlier : List Op) (word : List ℕ) (n : ℕ) → goto_operand earlier word ≡ Ok n → IsEarlier earlier word n
unfolding goto_operand
goto_ok earlier word n e = let l = led_ok earlier (number_of word) n e in record { value = l.0; target = l.1 }

pub goto_is : (earlier : List Op) (word : List ℕ) (n : ℕ) → IsEarlier earlier word n → goto_operand earlier word ≡ Ok n
unfolding goto_operand
goto_is earlier word n h = rw (h.value, h.target) refl

-- a value that a word may spell is taken where the word spells one, and only there
pub body_told_ok : (word : List ℕ) (o : Option ℕ) (n : ℕ) → body_told word o ≡ Ok n → o ≡ Some n
body_told_ok word None n e = go (is_body_name word) e
  where
    go : (b : Bool) → cond {A = Result ℕ ScenarioWhy} b (Err UnknownName) (Err Word) ≡ Ok n → None ≡ Some n
    go true e = absurd cc
    go false e = absurd cc
body_told_ok word (Some m) n e = ap (λ (k : ℕ). Some k) (ok_is m n e)

pub body_told_is : (word : List ℕ) (o : Option ℕ) (n : ℕ) → o ≡ Some n → body_told word o ≡ Ok n
body_told_is word o n e = ap (body_told word) e

pub known_ok : {X : Type 0} (o : Option X) (x : X) → given_value o ≡ Ok x → o ≡ Some x
known_ok None x e = absurd cc
known_ok {X} (Some y) x e = ap (λ (z : X). Some z) (ok_is y x e)

pub known_is : {X : Type 0} (o : Option X) (x : X) → o ≡ Some x → given_value o ≡ Ok x
known_is o x e = rw e refl

named_ok : (o : Option ℕ) (name : NameOf) → named o ≡ Ok name → o ≡ Some name.bits
named_ok None name e = absurd cc
named_ok (Some n) name e = ap (λ (x : NameOf). Some x.bits) (ok_is (record { bits = n }) name e)

pub name_ok : (word : List ℕ) (name : NameOf) → name_operand word ≡ Ok name → name_of word ≡ Some name.bits
unfolding name_operand
name_ok word name e = named_ok (name_of word) name e

pub name_is : (word : List ℕ) (name : NameOf) → name_of word ≡ Some name.bits → name_operand word ≡ Ok name
unfolding name_operand
name_is word name e = rw e refl

pub name0_ok : (word : List ℕ) (name : NameOf) → name0_operand word ≡ Ok name → name0_of word ≡ Some name.bits
unfolding name0_operand
name0_ok word name e = named_ok (name0_of word) name e

pub name0_is : (word : List ℕ) (name : NameOf) → name0_of word ≡ Some name.bits → name0_operand word ≡ Ok name
unfolding name0_operand
name0_is word name e = rw e refl

-- what the machine takes as one of two words is it
pub either_ok : (first second word : List ℕ) (b : Bool) → either_operand first second word ≡ Ok b → IsEither word first second b
unfolding either_operand
either_ok first second word b e =
    elim (branch_ok (bytes_eq word second) (done true) (cond (bytes_eq word first) (done false) (Err Word)) b e) [
      | inl h ↦ subst (λ (x : Bool). IsEither word first second x) (ok_is true b h.1) (text_is word second h.0)
      | inr h ↦
          let t = then_ok (bytes_eq word first) (done false) Word b h.1 in
          subst (λ (x : Bool). IsEither word first second x) (ok_is false b t.1) (text_is word first t.0)
    ]

-- each of two different words is taken by the machine
pub either_is : (first second word : List ℕ) (b : Bool) → bytes_eq first second ≡ false → IsEither word first second b → either_operand first second word ≡ Ok b
unfolding either_operand
either_is first second word true differ h = rw (h, text_same second) refl
either_is first second word false differ h = rw (h, differ, text_same first) refl

pub nowait_no_number : number_of (codes "nowait") ≡ None
unfolding number_of decimal_of
nowait_no_number = refl

pub wish_ok : (word : List ℕ) (wish : Wish) → wish_operand word ≡ Ok wish → IsWish word wish
unfolding wish_operand
wish_ok word wish e =
    elim (branch_ok (bytes_eq word (codes "nowait")) (done NoWait) (number_operand 0 4294967295 word >>= (λ ticks. Ok (Limit ticks))) wish e) [
      | inl h ↦ subst (λ (w : Wish). IsWish word w) (ok_is NoWait wish h.1) (text_is word (codes "nowait") h.0)
      | inr h ↦
          let b = bind_ok (number_operand 0 4294967295 word) (λ ticks. Ok (Limit ticks)) wish h.1 in
          subst (λ (w : Wish). IsWish word w) (ok_is (Limit b.0) wish b.2) (number_ok 0 4294967295 word b.0 b.1)
    ]

pub wish_is : (word : List ℕ) (wish : Wish) → IsWish word wish → wish_operand word ≡ Ok wish
unfolding wish_operand
wish_is word NoWait h = rw h refl
wish_is word (Limit ticks) h = rw (number_differs (codes "nowait") word ticks nowait_no_number h.value, number_is 0 4294967295 word ticks h) refl

pub body_ok : (bodies : List Body) (word : List ℕ) (n : ℕ) → body_operand bodies word ≡ Ok n → body_of bodies word ≡ Some n
unfolding body_operand
body_ok bodies word n e = body_told_ok word (body_of bodies word) n e

pub body_is : (bodies : List Body) (word : List ℕ) (n : ℕ) → body_of bodies word ≡ Some n → body_operand bodies word ≡ Ok n
unfolding body_operand
body_is bodies word n e = body_told_is word (body_of bodies word) n e

-- ---- init lines

-- what the machine takes behind `init` are the words of an init line
pub init_ok : (s : Scenario) (operands : List (List ℕ)) (init : Init) → init_operands s operands ≡ Ok init → IsInit s (codes "init" ∷ operands) init
unfolding init_operands
init_ok s [] init e = absurd cc
init_ok s (name ∷ []) init e = absurd cc
init_ok s (name ∷ cluster ∷ []) init e = absurd cc
init_ok s (name ∷ cluster ∷ priority ∷ []) init e = absurd cc
init_ok s (name ∷ cluster ∷ priority ∷ body ∷ []) init e =
    let made : NameOf → ℕ → ℕ → ℕ → Init = λ called c p b. record { name = called; cluster = c; prio = p; body = b } in
    let n = bind_ok (name_operand name) (λ called. cluster_operand (length s.clusters) cluster >>= (λ c. number_operand 1 255 priority >>= (λ p. body_operand s.bodies body >>= (λ b. Ok (made called c p b))))) init e in
    let c = bind_ok (cluster_operand (length s.clusters) cluster) (λ c. number_operand 1 255 priority >>= (λ p. body_operand s.bodies body >>= (λ b. Ok (made n.0 c p b)))) init n.2 in
    let p = bind_ok (number_operand 1 255 priority) (λ p. body_operand s.bodies body >>= (λ b. Ok (made n.0 c.0 p b))) init c.2 in
    let b = bind_ok (body_operand s.bodies body) (λ b. Ok (made n.0 c.0 p.0 b)) init p.2 in
    subst (λ (i : Init). IsInit s (codes "init" ∷ name ∷ cluster ∷ priority ∷ body ∷ []) i) {x = made n.0 c.0 p.0 b.0} (ok_is (made n.0 c.0 p.0 b.0) init b.2) (record {
      name = name;
      cluster = cluster;
      priority = priority;
      body = body;
      words_are = refl;
      name_is = name_ok name n.0 n.1;
      cluster_is = cluster_ok (length s.clusters) cluster c.0 c.1;
      priority_is = number_ok 1 255 priority p.0 p.1;
      body_is = body_ok s.bodies body b.0 b.1;
    })
init_ok s (name ∷ cluster ∷ priority ∷ body ∷ more ∷ words) init e = absurd cc

-- the words behind the first of an init line are taken by the machine
pub init_is : (s : Scenario) (words : List (List ℕ)) (init : Init) → IsInit s words init → (operands : List (List ℕ)) × (words ≡ codes "init" ∷ operands) × (init_operands s operands ≡ Ok init)
unfolding init_operands
init_is s words init h = (
  h.name ∷ h.cluster ∷ h.priority ∷ h.body ∷ [],
  h.words_are,
  rw (name_is h.name init.name h.name_is, cluster_is (length s.clusters) h.cluster init.cluster h.cluster_is, number_is 1 255 h.priority init.prio h.priority_is, body_is s.bodies h.body init.body h.body_is) refl,
)
