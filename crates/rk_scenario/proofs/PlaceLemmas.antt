-- Where lines lead that are read: the bodies are called as bodies may be, and the header stays behind.
use Rattle.std.proofs.Common.{◌≡◌, ℕ, Bool, true, false, cond, not, ◌⊎◌, inl, inr, List, [], ◌∷◌, ◌++◌, length, Option, Some, None, Result, Ok, Err, refl, sym, subst, ◌∙◌}
use Rattle.std.specs.Prelude.{nat_lt, is_some}
use Rattle.std.specs.List.{AllByRecursion}
use Rattle.rk_model.specs.declared.scenario.Body.{Body}
use Rattle.rk_model.specs.declared.scenario.ScenarioWhy.{ScenarioWhy}
use Rattle.rk_model.specs.declared.scenario.ScenarioWhy.TheVariants.{Header, Word, Repeated, TooMany}
use Rattle.rk_model.specs.Text.Words.{words_of, is_skipped, is_body_name}
use Rattle.rk_model.specs.Text.Forms.{form_of}
use Rattle.rk_model.specs.Text.Scenarios.{body_of}
use Rattle.rk_model.specs.Text.Reading.{◌>>=◌, Phase, Start, Headed, InBody, Draft, known_at, number_operand, form_line, init_operands, is_header, with_cluster, with_op, with_init, cluster_line, ticks_line, limit_line, body_line, init_line, after_statement, after_line}
use Rattle.rk_scenario.specs.Reasons.{LineKind, ClusterLine, TicksLine, LimitLine, BodyLine, OpLine, EndLine, InitLine, kind_at, IsPassed, Lead}
use Rattle.rk_scenario.proofs.NumberLemmas.{has_room}
use Rattle.rk_scenario.proofs.TextLemmas.{line_is, skipped_line}
use Rattle.rk_scenario.proofs.OperandReasonLemmas.{AreCalled}
use Rattle.rk_scenario.proofs.LineReasonLemmas.{KnowsOwn, IsCalledIn, opening, step_of, step_by, statement_is, knows_at}

-- ---- what a result gives

-- what is taken has P
abbrev Yields : (Draft → Type 0) → Result Draft ScenarioWhy → Type 0
Yields P (Ok x) = P x
Yields P (Err why) = Unit {0}

yielded : (P : Draft → Type 0) (r : Result Draft ScenarioWhy) (x : Draft) → Yields P r → r ≡ Ok x → P x
yielded P (Ok y) x holds e = let same : y ≡ x = cc in subst P same holds
yielded P (Err why) x holds e = absurd cc

test_yields : (P : Draft → Type 0) (b : Bool) (x : Draft) (why : ScenarioWhy) → P x → Yields P (cond b (Ok x) (Err why))
test_yields P true x why holds = holds
test_yields P false x why holds = tt

bind_yields : {A : Type 0} (P : Draft → Type 0) (r : Result A ScenarioWhy) (f : A → Result Draft ScenarioWhy) → ((x : A) → Yields P (f x)) → Yields P (r >>= f)
bind_yields P (Ok x) f holds = holds x
bind_yields P (Err why) f holds = tt

-- ---- drafts behind the header

-- the bodies, and the open one, are called as bodies may be
pub record IsNamed (d : Draft) : Type 0 where
  pub bodies : AreCalled d.scenario.bodies
  pub own : IsCalledIn d.phase d.body.name

-- so they are, and the header was read
pub record IsBehind (d : Draft) : Type 0 where
  pub bodies : AreCalled d.scenario.bodies
  pub own : IsCalledIn d.phase d.body.name
  pub header : d.phase ≡ Start → ⊥

called_in : (p : Phase) (name : List ℕ) → is_body_name name ≡ true → IsCalledIn p name
called_in InBody name called = called
called_in Start name called = tt
called_in _ name called = tt

called_more : (bodies : List Body) (body : Body) → AreCalled bodies → is_body_name body.name ≡ true → AreCalled (bodies ++ body ∷ [])
called_more [] body called own = (own, tt)
called_more (first ∷ bodies) body called own = (called.0, called_more bodies body called.1 own)

cluster_yields : (d : Draft) (words : List (List ℕ)) → AreCalled d.scenario.bodies → Yields IsBehind (cluster_line d words)
unfolding cluster_line
cluster_yields d [] called = tt
cluster_yields d (count ∷ []) called =
    bind_yields IsBehind (number_operand 1 8 count) (λ m. cond (has_room d.scenario.clusters m) (Ok (with_cluster d m)) (Err TooMany))
    (λ m. test_yields IsBehind (has_room d.scenario.clusters m) (with_cluster d m) TooMany (record { bodies = called; own = tt; header = λ e. absurd cc }))
cluster_yields d (count ∷ more ∷ words) called = tt

ticks_yields : (d : Draft) (words : List (List ℕ)) → AreCalled d.scenario.bodies → Yields IsBehind (ticks_line d words)
unfolding ticks_line
ticks_yields d [] called = tt
ticks_yields d (ticks ∷ []) called = bind_yields IsBehind (number_operand 0 1000000 ticks) _ (λ n. record { bodies = called; own = tt; header = λ e. absurd cc })
ticks_yields d (ticks ∷ more ∷ words) called = tt

limit_yields : (d : Draft) (words : List (List ℕ)) → AreCalled d.scenario.bodies → Yields IsBehind (limit_line d words)
unfolding limit_line
limit_yields d [] called = tt
limit_yields d (number ∷ []) called = bind_yields IsBehind (number_operand 1 1000000 number) _ (λ n. record { bodies = called; own = tt; header = λ e. absurd cc })
limit_yields d (number ∷ more ∷ words) called = tt

begin_yields : (d : Draft) (name : List ℕ) (called given room : Bool) → AreCalled d.scenario.bodies → is_body_name name ≡ called
    → Yields IsBehind (cond (not called) (Err Word) (cond given (Err Repeated) (cond room (Ok (opening d name)) (Err TooMany))))
begin_yields d name false given room bodies own = tt
begin_yields d name true true room bodies own = tt
begin_yields d name true false true bodies own = record { bodies = bodies; own = own; header = λ e. absurd cc }
begin_yields d name true false false bodies own = tt

body_yields : (d : Draft) (words : List (List ℕ)) → AreCalled d.scenario.bodies → Yields IsBehind (body_line d words)
unfolding body_line
body_yields d [] called = tt
body_yields d (name ∷ []) called = begin_yields d name (is_body_name name) (is_some (body_of d.scenario.bodies name)) (nat_lt (length d.scenario.bodies) 32) called refl
body_yields d (name ∷ more ∷ words) called = tt

init_yields : (d : Draft) (words : List (List ℕ)) → AreCalled d.scenario.bodies → Yields IsBehind (init_line d words)
unfolding init_line
init_yields d words called =
    bind_yields IsBehind (init_operands d.scenario words) (λ init. cond (nat_lt (length d.scenario.inits) 64) (Ok (with_init d init)) (Err TooMany))
    (λ init. test_yields IsBehind (nat_lt (length d.scenario.inits) 64) (with_init d init) TooMany (record { bodies = called; own = tt; header = λ e. absurd cc }))

kind_yields : (d : Draft) (kind : LineKind) (words : List (List ℕ)) → AreCalled d.scenario.bodies → KnowsOwn kind d.body.name → (d.phase ≡ Start → ⊥) → Yields IsBehind (step_of d kind words)
kind_yields d ClusterLine words called own behind = cluster_yields d words called
kind_yields d TicksLine words called own behind = ticks_yields d words called
kind_yields d LimitLine words called own behind = limit_yields d words called
kind_yields d BodyLine words called own behind = body_yields d words called
kind_yields d (OpLine op) words called own behind =
    bind_yields IsBehind (form_line (known_at d.scenario d.body) (form_of op) words) (λ made. cond (nat_lt (length d.body.lines) 1000) (Ok (with_op d made)) (Err TooMany))
    (λ made. test_yields IsBehind (nat_lt (length d.body.lines) 1000) (with_op d made) TooMany (record { bodies = called; own = called_in d.phase d.body.name own; header = behind }))
kind_yields d EndLine [] called own behind = record { bodies = called_more d.scenario.bodies d.body called own; own = tt; header = λ e. absurd cc }
kind_yields d EndLine (word ∷ words) called own behind = tt
kind_yields d InitLine words called own behind = init_yields d words called

step_yields : (d : Draft) (o : Option LineKind) (words : List (List ℕ)) → AreCalled d.scenario.bodies → ((kind : LineKind) → o ≡ Some kind → KnowsOwn kind d.body.name) → (d.phase ≡ Start → ⊥) → Yields IsBehind (step_by d o words)
step_yields d None words called own behind = tt
step_yields d (Some kind) words called own behind = kind_yields d kind words called (own kind refl) behind

-- ---- steps

pub started : (p : Phase) → (p ≡ Start) ⊎ (p ≡ Start → ⊥)
started Start = inl refl
started Headed = inr (λ e. absurd cc)
started _ = inr (λ e. absurd cc)

-- a line that isn't skipped leads behind the header
told_behind : (p : Phase) (d next : Draft) (words : List (List ℕ)) → p ≡ d.phase → is_skipped words ≡ false → after_statement p d words ≡ Ok next → IsNamed d → IsBehind next
told_behind p d next [] at kept e named = absurd cc
told_behind p d next (first ∷ words) at kept e named = elim (started p) [
  | inl is ↦
      let header : cond (is_header (first ∷ words)) (Ok (record d { phase = Headed })) (Err Header) ≡ Ok next = subst (λ (q : Phase). after_statement q d (first ∷ words) ≡ Ok next) is e in
      yielded IsBehind _ next (test_yields IsBehind (is_header (first ∷ words)) (record d { phase = Headed }) Header (record { bodies = named.bodies; own = tt; header = λ e. absurd cc })) header
  | inr behind ↦
      let step = sym (statement_is p d first words behind) ∙ e in
      yielded IsBehind _ next (step_yields d (kind_at p first) words named.bodies (λ kind is. knows_at p first kind d.body.name (subst (λ (q : Phase). IsCalledIn q d.body.name) (sym at) named.own) is) (λ start. behind (at ∙ start))) step
]

-- a line that is read keeps the names
pub line_named : (d : Draft) (line : List ℕ) (next : Draft) → after_line d line ≡ Ok next → IsNamed d → IsNamed next
line_named d line next e named =
    let l = line_is d line next e in
    elim l.step [
      | inl t ↦ subst IsNamed t.1 named
      | inr t ↦ let after = told_behind d.phase d next (words_of line) refl t.0 t.1 named in record { bodies = after.bodies; own = after.own }
    ]

-- ---- lines that lead on

lead_behind : (lines : List (List ℕ)) (d to : Draft) → Lead d lines to → IsBehind d → IsBehind to
lead_behind [] d to lead behind = subst IsBehind lead behind
lead_behind (line ∷ lines) d to lead behind =
    let l = line_is d line lead.0 lead.1 in
    lead_behind lines lead.0 to lead.2 (elim l.step [
      | inl t ↦ subst IsBehind t.1 behind
      | inr t ↦ told_behind d.phase d lead.0 (words_of line) refl t.0 t.1 (record { bodies = behind.bodies; own = behind.own })
    ])

-- lines that don't lead behind the header are skipped
pub lead_passed : (lines : List (List ℕ)) (d to : Draft) → Lead d lines to → IsNamed d → to.phase ≡ Start → AllByRecursion IsPassed lines
lead_passed [] d to lead named start = tt
lead_passed (line ∷ lines) d to lead named start =
    let l = line_is d line lead.0 lead.1 in
    elim l.step [
      | inl t ↦ (record { allowed = l.plain; skipped = t.0 }, lead_passed lines lead.0 to lead.2 (subst IsNamed t.1 named) start)
      | inr t ↦ let behind = lead_behind lines lead.0 to lead.2 (told_behind d.phase d lead.0 (words_of line) refl t.0 t.1 named) in absurd (behind.header start)
    ]

-- lines that are skipped lead nowhere else
pub passed_lead : (lines : List (List ℕ)) (d : Draft) → AllByRecursion IsPassed lines → Lead d lines d
passed_lead [] d passed = refl
passed_lead (line ∷ lines) d passed = (d, skipped_line d line passed.0.allowed passed.0.skipped, passed_lead lines d passed.1)
