-- A scenario that has a text is within the limits.
use Rattle.std.proofs.Common.{◌≡◌, ℕ, zero, suc, ◌+◌, ◌*◌, ◌<◌, ◌≤◌, List, [], ◌∷◌, ◌++◌, Bool, true, false, cond, ◌&&◌, Some, None, slice_get, length, arith, refl, subst, ◌∙◌, append_assoc}
use Rattle.std.specs.List.{AllByRecursion}
use Rattle.std.proofs.lemmas.Bool.{false≢true}
use Rattle.rk_model.specs.declared.scenario.Op.{Op}
use Rattle.rk_model.specs.declared.scenario.Op.TheVariants.{Work, Goto, TaskGetPriority, SemSetPriority}
use Rattle.rk_model.specs.declared.scenario.Target.{Target}
use Rattle.rk_model.specs.declared.scenario.Body.{Body}
use Rattle.rk_model.specs.declared.scenario.Init.{Init}
use Rattle.rk_model.specs.declared.scenario.Scenario.{Scenario}
use Rattle.rk_model.specs.Text.Scenarios.{IsScenario, Known, with_earlier, Spell, IsOp, AreOps, AreBodies, AreInits, IsLimit, may_be_target, is_target}
use Rattle.rk_model.specs.Text.Words.{name_of, is_name_byte}
use Rattle.rk_model.specs.Text.Forms.{Number, Any, Id, Var, Cluster, Earlier}
use Rattle.rk_model.specs.Limits.{GoesOn, IsNear, IsWithinLimits}

short_bodies : (clusters : ℕ) (front : List Body) (statements : List (List (List ℕ))) (bodies : List Body) → AreBodies clusters front statements bodies → AllByRecursion (λ (body : Body). length body.lines ≤ 1000) bodies
short_bodies clusters front statements [] are = tt
short_bodies clusters front statements (body ∷ bodies) are = (are.3.few, short_bodies clusters (front ++ body ∷ []) are.1 bodies are.4)

found_below : (earlier : List Op) (i : ℕ) → may_be_target (slice_get earlier i) ≡ true → i < length earlier
found_below [] i is = absurd (false≢true is)
found_below (op ∷ earlier) zero is = omega arith
found_below (op ∷ earlier) (suc i) is = omega (arith, found_below earlier i is)

-- The target of a goto is the number of one of the lines before it.
pub target_within : (earlier : List Op) (n : ℕ) → is_target earlier n ≡ true → (1 ≤ n) × (n ≤ length earlier)
target_within earlier zero is = absurd (false≢true is)
target_within earlier (suc i) is = (omega arith, omega (arith, found_below earlier i is))

-- the target of a goto is that of an earlier line
goto_leads : (known : Known) (words : List (List ℕ)) (target : ℕ) → Spell known (Earlier ∷ []) Goto words (Goto target) → is_target known.earlier target ≡ true
goto_leads known [] target is = absurd is
goto_leads known (word ∷ []) target is = let same : is.0 ≡ target = cc (is.2) in subst (λ (n : ℕ). is_target known.earlier n ≡ true) same is.1.target
goto_leads known (word ∷ more ∷ words) target is = absurd is.2

-- the ticks of a work are at least one
work_lasts : (known : Known) (words : List (List ℕ)) (n : ℕ) → Spell known (Number 1 1000000 ∷ []) Work words (Work n) → 1 ≤ n
work_lasts known [] n is = absurd is
work_lasts known (word ∷ []) n is = let same : is.0 ≡ n = cc (is.2) in subst (λ (m : ℕ). 1 ≤ m) same is.1.low
work_lasts known (word ∷ more ∷ words) n is = absurd is.2

stands_in : (earlier more : List Op) (i : ℕ) → may_be_target (slice_get earlier i) ≡ true → may_be_target (slice_get (earlier ++ more) i) ≡ true
stands_in [] more i is = absurd (false≢true is)
stands_in (op ∷ earlier) more zero is = is
stands_in (op ∷ earlier) more (suc i) is = stands_in earlier more i is

target_in : (earlier more : List Op) (n : ℕ) → is_target earlier n ≡ true → is_target (earlier ++ more) n ≡ true
target_in earlier more zero is = absurd (false≢true is)
target_in earlier more (suc i) is = stands_in earlier more i is

goes_on : (known : Known) (more : List Op) (words : List (List ℕ)) (op : Op) → IsOp known words op → GoesOn (known.earlier ++ more) op
goes_on known more words (Work n) is = work_lasts known is.0 n is.2
goes_on known more words (Goto target) is = target_in known.earlier more target (goto_leads known is.0 target is.2)
goes_on known more words _ is = tt

-- the ops behind the earlier lines of a body
go_on_from : (all : List Op) (known : Known) (statements : List (List (List ℕ))) (ops : List Op) → known.earlier ++ ops ≡ all → AreOps known statements ops → AllByRecursion (GoesOn all) ops
go_on_from all known [] [] e are = tt
go_on_from all known [] (op ∷ ops) e are = absurd are
go_on_from all known (words ∷ statements) [] e are = absurd are
go_on_from all known (words ∷ statements) (op ∷ ops) e are = (
  subst (λ (lines : List Op). GoesOn lines op) e (goes_on known (op ∷ ops) words op are.0),
  go_on_from all (with_earlier known op) statements ops (append_assoc known.earlier (op ∷ []) ops ∙ e) are.1,
)

ops_of : (clusters : ℕ) (front : List Body) (statements : List (List (List ℕ))) (bodies : List Body) → AreBodies clusters front statements bodies → AllByRecursion (λ (body : Body). AllByRecursion (GoesOn body.lines) body.lines) bodies
ops_of clusters front statements [] are = tt
ops_of clusters front statements (body ∷ bodies) are =
    (go_on_from body.lines (record { clusters = clusters; bodies = front; own = body.name; earlier = [] }) are.3.inner body.lines refl are.3.ops, ops_of clusters (front ++ body ∷ []) are.1 bodies are.4)

-- the cluster that a line names is one of the scenario
asks_near : (known : Known) (words : List (List ℕ)) (id : Target) (cluster var : ℕ) → Spell known (Id ∷ Cluster ∷ Var ∷ []) TaskGetPriority words (TaskGetPriority id cluster var) → cluster < known.clusters
asks_near known [] id cluster var is = absurd is
asks_near known (a ∷ []) id cluster var is = absurd is.2
asks_near known (a ∷ b ∷ []) id cluster var is = absurd is.2.2
asks_near known (a ∷ b ∷ c ∷ []) id cluster var is = let same : is.2.0 ≡ cluster = cc (is.2.2.2) in subst (λ (n : ℕ). n < known.clusters) same is.2.1.there
asks_near known (a ∷ b ∷ c ∷ d ∷ words) id cluster var is = absurd is.2.2.2

sets_near : (known : Known) (words : List (List ℕ)) (id : Target) (cluster prio var : ℕ) → Spell known (Id ∷ Cluster ∷ Any ∷ Var ∷ []) SemSetPriority words (SemSetPriority id cluster prio var) → cluster < known.clusters
sets_near known [] id cluster prio var is = absurd is
sets_near known (a ∷ []) id cluster prio var is = absurd is.2
sets_near known (a ∷ b ∷ []) id cluster prio var is = absurd is.2.2
sets_near known (a ∷ b ∷ c ∷ []) id cluster prio var is = absurd is.2.2.2
sets_near known (a ∷ b ∷ c ∷ d ∷ []) id cluster prio var is = let same : is.2.0 ≡ cluster = cc (is.2.2.2.2) in subst (λ (n : ℕ). n < known.clusters) same is.2.1.there
sets_near known (a ∷ b ∷ c ∷ d ∷ e ∷ words) id cluster prio var is = absurd is.2.2.2.2

is_near : (known : Known) (words : List (List ℕ)) (op : Op) → known.clusters ≤ 4 → IsOp known words op → IsNear op
is_near known words (TaskGetPriority id cluster var) few is = omega (arith, few, asks_near known is.0 id cluster var is.2)
is_near known words (SemSetPriority id cluster prio var) few is = omega (arith, few, sets_near known is.0 id cluster prio var is.2)
is_near known words _ few is = tt

near_lines : (known : Known) (statements : List (List (List ℕ))) (ops : List Op) → known.clusters ≤ 4 → AreOps known statements ops → AllByRecursion IsNear ops
near_lines known [] [] few are = tt
near_lines known [] (op ∷ ops) few are = absurd are
near_lines known (words ∷ statements) [] few are = absurd are
near_lines known (words ∷ statements) (op ∷ ops) few are = (is_near known words op few are.0, near_lines (with_earlier known op) statements ops few are.1)

near_bodies : (clusters : ℕ) (front : List Body) (statements : List (List (List ℕ))) (bodies : List Body) → clusters ≤ 4 → AreBodies clusters front statements bodies → AllByRecursion (λ (body : Body). AllByRecursion IsNear body.lines) bodies
near_bodies clusters front statements [] few are = tt
near_bodies clusters front statements (body ∷ bodies) few are =
    (near_lines (record { clusters = clusters; bodies = front; own = body.name; earlier = [] }) are.3.inner body.lines few are.3.ops, near_bodies clusters (front ++ body ∷ []) are.1 bodies few are.4)

near_homes : (s : Scenario) (statements : List (List (List ℕ))) (inits : List Init) → AreInits s statements inits → AllByRecursion (λ (init : Init). init.cluster < length s.clusters) inits
near_homes s [] [] are = tt
near_homes s [] (init ∷ inits) are = absurd are
near_homes s (words ∷ statements) [] are = absurd are
near_homes s (words ∷ statements) (init ∷ inits) are = (are.0.cluster_is.there, near_homes s statements inits are.1)

-- a byte of a name isn't 0
some_byte : (b : ℕ) → is_name_byte b ≡ true → 1 ≤ b
some_byte zero is = absurd (false≢true is)
some_byte (suc i) is = omega arith

first_byte : (p q r s : Bool) → (p && q && r && s) ≡ true → p ≡ true
first_byte true q r s is = refl
first_byte false q r s is = absurd (false≢true is)

spelled : (a b c d n : ℕ) (test : Bool) → (is_name_byte a && is_name_byte b && is_name_byte c && is_name_byte d) ≡ test → cond test (Some (((a * 256 + b) * 256 + c) * 256 + d)) None ≡ Some n → 1 ≤ n
spelled a b c d n true are is =
    let low = some_byte a (first_byte (is_name_byte a) (is_name_byte b) (is_name_byte c) (is_name_byte d) are) in
    let e : ((a * 256 + b) * 256 + c) * 256 + d ≡ n = cc in
    omega (arith, low, e)
spelled a b c d n false are is = let no : ⊥ = cc in absurd no

-- a name that a word spells isn't 0
pub some_name : (word : List ℕ) (n : ℕ) → name_of word ≡ Some n → 1 ≤ n
unfolding name_of
some_name [] n is = let no : ⊥ = cc in absurd no
some_name (a ∷ []) n is = let no : ⊥ = cc in absurd no
some_name (a ∷ b ∷ []) n is = let no : ⊥ = cc in absurd no
some_name (a ∷ b ∷ c ∷ []) n is = let no : ⊥ = cc in absurd no
some_name (a ∷ b ∷ c ∷ d ∷ []) n is = spelled a b c d n (is_name_byte a && is_name_byte b && is_name_byte c && is_name_byte d) refl is
some_name (a ∷ b ∷ c ∷ d ∷ e ∷ more) n is = let no : ⊥ = cc in absurd no

some_names : (s : Scenario) (statements : List (List (List ℕ))) (inits : List Init) → AreInits s statements inits → AllByRecursion (λ (init : Init). 1 ≤ init.name.bits) inits
some_names s [] [] are = tt
some_names s [] (init ∷ inits) are = absurd are
some_names s (words ∷ statements) [] are = absurd are
some_names s (words ∷ statements) (init ∷ inits) are = (some_name are.0.name init.name.bits are.0.name_is, some_names s statements inits are.1)

limit_within : (statements : List (List (List ℕ))) (limit : ℕ) → IsLimit statements limit → (1 ≤ limit) × (limit ≤ 1000000)
limit_within [] limit is = (omega (arith, is), omega (arith, is))
limit_within (words ∷ []) limit is = (is.2.low, is.2.high)
limit_within (words ∷ more ∷ statements) limit is = absurd is

pub limits_of : (s : Scenario) → IsScenario s → IsWithinLimits s
limits_of s is =
    let lines = is.text.lines in
    let limit = limit_within lines.limits s.limit lines.limit_is in
    record {
      some_cluster = lines.some_cluster;
      few_clusters = lines.few_clusters;
      few_cpus = lines.few_cpus;
      horizon = omega (arith, lines.ticks_are.number.high);
      some_limit = limit.0;
      limit = limit.1;
      few_bodies = lines.few_bodies;
      bodies = record { short = short_bodies (length s.clusters) [] lines.bodies s.bodies lines.bodies_are; ops = ops_of (length s.clusters) [] lines.bodies s.bodies lines.bodies_are; near = near_bodies (length s.clusters) [] lines.bodies s.bodies lines.few_clusters lines.bodies_are };
      few_inits = lines.few_inits;
      homes = near_homes s lines.inits s.inits lines.inits_are;
      names = some_names s lines.inits s.inits lines.inits_are;
    }
