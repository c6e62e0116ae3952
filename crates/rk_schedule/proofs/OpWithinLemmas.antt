-- What the text of a scenario says is within the limits: its lines name bodies that there are, and sets of 32 events; its init lines name bodies and priorities.
use Rattle.std.proofs.Common.{◌≡◌, ℕ, zero, suc, ◌+◌, ◌^◌, ◌<◌, ◌≤◌, List, [], ◌∷◌, ◌++◌, Bool, true, false, cond, Option, Some, None, slice_get, length, length-append, arith, refl}
use Rattle.std.specs.Prelude.{IfSome}
use Rattle.std.specs.List.{AllByRecursion}
use Rattle.std.specs.Str.{bytes_eq}
use Rattle.rk_model.specs.declared.scenario.Op.{Op}
use Rattle.rk_model.specs.declared.scenario.Op.TheVariants.{TaskStart, EventSend}
use Rattle.rk_model.specs.declared.scenario.Body.{Body}
use Rattle.rk_model.specs.declared.scenario.Init.{Init}
use Rattle.rk_model.specs.declared.scenario.Scenario.{Scenario}
use Rattle.rk_model.specs.declared.scenario.Target.{Target}
use Rattle.rk_model.specs.State.{op_in, op_at}
use Rattle.rk_model.specs.Text.Forms.{Number, Id, B}
use Rattle.rk_model.specs.Text.Scenarios.{IsScenario, Known, with_earlier, is_named, body_from, body_of, or_own, body_known, Spell, IsOp, AreOps, AreBodies, AreInits}
use Rattle.rk_model.specs.Text.Words.{is_body_name}
use Rattle.rk_model.specs.Text.Schedules.{name_in}
use Rattle.rk_schedule.proofs.OutNumberLemmas.{IsOpWithin, IsInitWithin}
use Rattle.rk_schedule.proofs.CleanLemmas.{AreNamedBodies}

-- ---- names of bodies

body_from_low : (b : ℕ) (name : List ℕ) (bodies : List Body) (n : ℕ) → body_from b name bodies ≡ Some n → n < b + length bodies
body_from_low b name [] n is = let no : ⊥ = cc in absurd no
body_from_low b name (body ∷ bodies) n is = by (is_named name body) is (body_from_low (b + 1) name bodies n) where
  by : (found : Bool) → cond found (Some b) (body_from (b + 1) name bodies) ≡ Some n → (body_from (b + 1) name bodies ≡ Some n → n < b + 1 + length bodies) → n < b + length (body ∷ bodies)
  by true is later = let same : b ≡ n = cc (is) in omega (arith, same)
  by false is later = omega (arith, later is)

or_own_low : (o : Option ℕ) (m : ℕ) (own name : List ℕ) (n : ℕ) → ((b : ℕ) → o ≡ Some b → b < m) → or_own o m own name ≡ Some n → n ≤ m
or_own_low (Some b) m own name n low is = let same : b ≡ n = cc (is) in omega (arith, same, low b refl)
or_own_low None m own name n low is = by (bytes_eq own name) is where
  by : (mine : Bool) → cond mine (Some m) None ≡ Some n → n ≤ m
  by true is = let same : m ≡ n = cc (is) in omega (arith, same)
  by false is = let no : ⊥ = cc in absurd no

known_low : (bodies : List Body) (own name : List ℕ) (n : ℕ) → body_known bodies own name ≡ Some n → n ≤ length bodies
known_low bodies own name n is = or_own_low (body_of bodies name) (length bodies) own name n (λ b found. omega (arith, body_from_low 0 name bodies b found)) is

-- ---- lines of bodies

-- the body that a task is started with is one that there is
start_within : (known : Known) (words : List (List ℕ)) (n : ℕ) (id : Target) (body : ℕ) → length known.bodies < n → Spell known (Id ∷ B ∷ []) TaskStart words (TaskStart id body) → body < n
start_within known [] n id body few is = absurd is
start_within known (a ∷ []) n id body few is = absurd is.2
start_within known (a ∷ b ∷ []) n id body few is =
    let same : is.2.0 ≡ body = cc (is.2.2) in
    omega (arith, same, few, known_low known.bodies known.own b is.2.0 is.2.1)
start_within known (a ∷ b ∷ c ∷ words) n id body few is = absurd is.2.2

-- the events that are sent are some of 32
send_within : (known : Known) (words : List (List ℕ)) (id : Target) (set : ℕ) → Spell known (Id ∷ Number 0 4294967295 ∷ []) EventSend words (EventSend id set) → set < 2 ^ 32
send_within known [] id set is = absurd is
send_within known (a ∷ []) id set is = absurd is.2
send_within known (a ∷ b ∷ []) id set is =
    let same : is.2.0 ≡ set = cc (is.2.2) in
    omega (arith, same, is.2.1.high)
send_within known (a ∷ b ∷ c ∷ words) id set is = absurd is.2.2

op_within : (known : Known) (n : ℕ) (words : List (List ℕ)) (op : Op) → length known.bodies < n → IsOp known words op → IsOpWithin n op
op_within known n words (TaskStart id body) few is = start_within known is.0 n id body few is.2
op_within known n words (EventSend id set) few is = send_within known is.0 id set is.2
op_within known n words _ few is = tt

ops_within : (known : Known) (n : ℕ) (statements : List (List (List ℕ))) (ops : List Op) → length known.bodies < n → AreOps known statements ops → AllByRecursion (IsOpWithin n) ops
ops_within known n [] [] few are = tt
ops_within known n [] (op ∷ ops) few are = absurd are
ops_within known n (words ∷ statements) [] few are = absurd are
ops_within known n (words ∷ statements) (op ∷ ops) few are = (op_within known n words op few are.0, ops_within (with_earlier known op) n statements ops few are.1)

abbrev AreBodiesWithin : ℕ → List Body → Type 0
AreBodiesWithin n bodies = AllByRecursion (λ (body : Body). AllByRecursion (IsOpWithin n) body.lines) bodies

bodies_within : (n clusters : ℕ) (front : List Body) (statements : List (List (List ℕ))) (bodies : List Body) → length front + length bodies ≤ n → AreBodies clusters front statements bodies → AreBodiesWithin n bodies
bodies_within n clusters front statements [] few are = tt
bodies_within n clusters front statements (body ∷ bodies) few are =
    let longer : length (front ++ body ∷ []) ≡ length front + 1 = length-append front (body ∷ []) in (
      ops_within (record { clusters = clusters; bodies = front; own = body.name; earlier = [] }) n are.3.inner body.lines (omega (arith, few)) are.3.ops,
      bodies_within n clusters (front ++ body ∷ []) are.1 bodies (omega (arith, few, longer)) are.4,
    )

got_op : (n : ℕ) (ops : List Op) (i : ℕ) → AllByRecursion (IsOpWithin n) ops → IfSome (slice_get ops i) (IsOpWithin n)
got_op n [] i are = tt
got_op n (op ∷ ops) zero are = are.0
got_op n (op ∷ ops) (suc i) are = got_op n ops i are.1

got_line : (n : ℕ) (bodies : List Body) (b line : ℕ) → AreBodiesWithin n bodies → IfSome (op_in (slice_get bodies b) line) (IsOpWithin n)
got_line n [] b line are = tt
got_line n (body ∷ bodies) zero zero are = tt
got_line n (body ∷ bodies) zero (suc i) are = got_op n body.lines i are.0
got_line n (body ∷ bodies) (suc b) line are = got_line n bodies b line are.1

-- Each line of a body of a scenario is within the limits.
pub lines_within : (s : Scenario) (b line : ℕ) → IsScenario s → IfSome (op_at s b line) (IsOpWithin (length s.bodies))
lines_within s b line is = got_line (length s.bodies) s.bodies b line (bodies_within (length s.bodies) (length s.clusters) [] is.text.lines.bodies s.bodies (omega arith) is.text.lines.bodies_are)

-- ---- init lines

inits_of : (s : Scenario) (statements : List (List (List ℕ))) (inits : List Init) → AreInits s statements inits → AllByRecursion (IsInitWithin (length s.bodies)) inits
inits_of s [] [] are = tt
inits_of s [] (init ∷ inits) are = absurd are
inits_of s (words ∷ statements) [] are = absurd are
inits_of s (words ∷ statements) (init ∷ inits) are = (record { has_body = omega (arith, body_from_low 0 are.0.body s.bodies init.body are.0.body_is); urgent = are.0.priority_is.high }, inits_of s statements inits are.1)

-- Each init line of a scenario is within the limits.
pub inits_within : (s : Scenario) → IsScenario s → AllByRecursion (IsInitWithin (length s.bodies)) s.inits
inits_within s is = inits_of s is.text.lines.inits s.inits is.text.lines.inits_are

-- ---- names

-- A body that there is has a body's name.
pub name_at : (bodies : List Body) (b : ℕ) → AreNamedBodies bodies → b < length bodies → is_body_name (name_in (slice_get bodies b)) ≡ true
name_at [] b named low = absurd (omega (arith, low))
name_at (body ∷ bodies) zero named low = named.0
name_at (body ∷ bodies) (suc b) named low = name_at bodies b named.1 (omega (arith, low))
