-- The text of a scenario: a relation between the words of its lines and the scenario.
use Rattle.std.specs.Prelude.{ℕ, zero, suc, ◌+◌, ◌≡◌, ◌≤◌, ◌<◌, List, [], ◌∷◌, ◌++◌, Bool, true, false, not, Option, Some, None, slice_get, length, codes, map, filter, if◌then◌else◌}
use Rattle.std.specs.List.{AllByRecursion}
use Rattle.std.specs.Str.{bytes_eq}
use Rattle.rk_model.specs.declared.limits.TheConstants.{LEAST_URGENT, MOST_BODIES, MOST_BYTES, MOST_CLUSTERS, MOST_ENTRIES, MOST_LINES, MOST_OBJECTS, MOST_PROCESSORS, MOST_TICKS, USUAL_ENTRIES}
use Rattle.rk_model.specs.declared.scenario.Op.{Op}
use Rattle.rk_model.specs.Directives.Lines.{kind_of, is_place}
use Rattle.rk_model.specs.declared.scenario.Target.{Target}
use Rattle.rk_model.specs.declared.scenario.Target.TheVariants.{Var, Own, Given}
use Rattle.rk_model.specs.declared.scenario.Wish.{Wish}
use Rattle.rk_model.specs.declared.scenario.Wish.TheVariants.{NoWait, Limit}
use Rattle.rk_model.specs.declared.scenario.Body.{Body}
use Rattle.rk_model.specs.declared.scenario.Init.{Init}
use Rattle.rk_model.specs.declared.scenario.Scenario.{Scenario}
use Rattle.rk_model.specs.Text.Forms.{Operand, Value, Makes, Form, Row, form_of}
use Rattle.rk_model.specs.Text.Words.{lines_of, words_of, is_plain, is_skipped, number_of, name_of, name0_of, var_of, is_body_name, semaphore_kind_of, order_of, protocol_of}

-- the words of the lines that aren't skipped
abbrev pub told_lines : List ℕ → List (List (List ℕ))
told_lines bytes = filter (λ words. not (is_skipped words)) (map words_of (lines_of bytes))

-- The word spells a number from least to most.
pub record IsNumber (word : List ℕ) (n least most : ℕ) : Type 0 where
  pub value : number_of word ≡ Some n
  pub low : least ≤ n
  pub high : n ≤ most

-- The word is a CLUSTER: the number of one of so many clusters, the first of which has the number 0.
pub record IsClusterNumber (clusters : ℕ) (word : List ℕ) (c : ℕ) : Type 0 where
  pub value : number_of word ≡ Some c
  pub there : c < clusters

-- The word is an ID: a variable, `self`, or a number.
abbrev pub IsId : List ℕ → Target → Type 0
IsId word (Var var) = var_of word ≡ Some var
IsId word Own = word ≡ codes "self"
IsId word (Given bits) = IsNumber word bits 0 4294967295

-- The word is the first of two, or with true the second.
abbrev pub IsEither : List ℕ → List ℕ → List ℕ → Bool → Type 0
IsEither word first second false = word ≡ first
IsEither word first second true = word ≡ second

-- The word is a WISH: `nowait`, or a number of ticks.
abbrev pub IsWish : List ℕ → Wish → Type 0
IsWish word NoWait = word ≡ codes "nowait"
IsWish word (Limit ticks) = IsNumber word ticks 0 4294967295

-- The word stands for an address: a variable, or a number.
abbrev pub IsAddress : List ℕ → Target → Type 0
IsAddress word (Var var) = var_of word ≡ Some var
IsAddress word Own = ⊥
IsAddress word (Given bits) = IsNumber word bits 0 4294967295

-- whether a body has the name
abbrev pub is_named : List ℕ → Body → Bool
is_named name body = bytes_eq body.name name

-- the number of the body of a name among these, the first of which has the number b
abbrev pub body_from : ℕ → List ℕ → List Body → Option ℕ
body_from b name [] = None
body_from b name (body ∷ bodies) = if is_named name body then Some b else body_from (b + 1) name bodies

-- the number of the body of a name
abbrev pub body_of : List Body → List ℕ → Option ℕ
body_of bodies name = body_from 0 name bodies

-- the number of the body of a name where this says what it is among the first n, and the one behind them has the name own
abbrev pub or_own : Option ℕ → ℕ → List ℕ → List ℕ → Option ℕ
or_own (Some b) n own name = Some b
or_own None n own name = if bytes_eq own name then Some n else None

-- the number of the body of a name among these and the one behind them, which has the name own
abbrev pub body_known : List Body → List ℕ → List ℕ → Option ℕ
body_known bodies own name = or_own (body_of bodies name) (length bodies) own name

-- whether a goto may lead to what stands at a line: anything but a goto
abbrev pub may_be_target : Option Op → Bool
may_be_target None = false
may_be_target (Some op) = is_place (kind_of op)

-- whether this is the number, from 1, of one of these earlier lines that isn't a goto
abbrev pub is_target : List Op → ℕ → Bool
is_target earlier zero = false
is_target earlier (suc i) = may_be_target (slice_get earlier i)

-- What a line of a body may refer to: the clusters, by how many there are; the bodies in front of its own, its body's name, and the earlier lines of its body.
pub record Known : Type 0 where
  pub clusters : ℕ
  pub bodies : List Body
  pub own : List ℕ
  pub earlier : List Op

-- the same with one more earlier line
abbrev pub with_earlier : Known → Op → Known
with_earlier known op = record known { earlier = known.earlier ++ op ∷ [] }

-- The word is the number of one of these earlier lines that isn't a goto.
pub record IsEarlier (earlier : List Op) (word : List ℕ) (n : ℕ) : Type 0 where
  pub value : number_of word ≡ Some n
  pub target : is_target earlier n ≡ true

-- The word spells the value of an operand of a line which may refer to what is known there.
abbrev pub IsSpelled : Known → (o : Operand) → List ℕ → Value o → Type 0
IsSpelled known (Operand.Number least most) word n = IsNumber word n least most
IsSpelled known Operand.Name word name = name_of word ≡ Some name.bits
IsSpelled known Operand.Name0 word name = name0_of word ≡ Some name.bits
IsSpelled known Operand.Var word var = var_of word ≡ Some var
IsSpelled known Operand.Id word id = IsId word id
IsSpelled known Operand.Address word address = IsAddress word address
IsSpelled known Operand.Cluster word c = IsClusterNumber known.clusters word c
IsSpelled known Operand.B word body = body_known known.bodies known.own word ≡ Some body
IsSpelled known Operand.Earlier word n = IsEarlier known.earlier word n
IsSpelled known Operand.Mode word all = IsEither word (codes "any") (codes "all") all
IsSpelled known Operand.Kind word automatic = IsEither word (codes "manual") (codes "auto") automatic
IsSpelled known Operand.Wish word wish = IsWish word wish
IsSpelled known Operand.SemaphoreKind word kind = semaphore_kind_of word ≡ Some kind
IsSpelled known Operand.Order word order = order_of word ≡ Some order
IsSpelled known Operand.Protocol word protocol = protocol_of word ≡ Some protocol

-- The words spell values of the operands, one each, which make the op.
abbrev pub Spell : Known → (operands : List Operand) → Makes operands → List (List ℕ) → Op → Type 0
Spell known [] made [] op = made ≡ op
Spell known [] made (word ∷ words) op = ⊥
Spell known (o ∷ operands) made [] op = ⊥
Spell known (o ∷ operands) made (word ∷ words) op = (value : Value o) × IsSpelled known o word value × Spell known operands (made value) words op

-- The words are of a form: its first word, and a word for each of its operands.
abbrev pub IsOfForm : Known → Form → List (List ℕ) → Op → Type 0
IsOfForm known (Row first operands made) words op = (rest : List (List ℕ)) × (words ≡ first ∷ rest) × Spell known operands made rest op

-- The words are those of a line of a body, which may refer to what is known there.
abbrev pub IsOp : Known → List (List ℕ) → Op → Type 0
IsOp known words op = IsOfForm known (form_of op) words op

-- The lines are those of the ops, one each, which may refer to what is known at the first.
abbrev pub AreOps : Known → List (List (List ℕ)) → List Op → Type 0
AreOps known [] [] = Unit {0}
AreOps known [] (op ∷ ops) = ⊥
AreOps known (words ∷ statements) [] = ⊥
AreOps known (words ∷ statements) (op ∷ ops) = IsOp known words op × AreOps (with_earlier known op) statements ops

-- The lines are those of a body behind others, where there are so many clusters: `body B`, at most 1,000 lines, and `end`.
pub record IsBody (clusters : ℕ) (bodies : List Body) (statements : List (List (List ℕ))) (body : Body) : Type 0 where
  pub inner : List (List (List ℕ))
  pub statements_are : statements ≡ (codes "body" ∷ body.name ∷ []) ∷ inner ++ (codes "end" ∷ []) ∷ []
  pub name : is_body_name body.name ≡ true
  pub few : length body.lines ≤ MOST_LINES
  pub ops : AreOps (record { clusters = clusters; bodies = bodies; own = body.name; earlier = [] }) inner body.lines

-- The lines are those of the bodies behind others, one after another, where there are so many clusters.
abbrev pub AreBodies : ℕ → List Body → List (List (List ℕ)) → List Body → Type 0
AreBodies clusters front statements [] = statements ≡ []
AreBodies clusters front statements (body ∷ bodies) =
    (first rest : List (List (List ℕ))) × (statements ≡ first ++ rest) × IsBody clusters front first body × AreBodies clusters (front ++ body ∷ []) rest bodies

-- No two bodies have one name.
abbrev pub AreDistinct : List Body → Type 0
AreDistinct [] = Unit {0}
AreDistinct (body ∷ bodies) = body_of bodies body.name ≡ None × AreDistinct bodies

-- The words are those of a line `init NAME CLUSTER PRIORITY B`.
pub record IsInit (s : Scenario) (words : List (List ℕ)) (init : Init) : Type 0 where
  pub name : List ℕ
  pub cluster : List ℕ
  pub priority : List ℕ
  pub body : List ℕ
  pub words_are : words ≡ codes "init" ∷ name ∷ cluster ∷ priority ∷ body ∷ []
  pub name_is : name_of name ≡ Some init.name.bits
  pub cluster_is : IsClusterNumber (length s.clusters) cluster init.cluster
  pub priority_is : IsNumber priority init.prio 1 LEAST_URGENT
  pub body_is : body_of s.bodies body ≡ Some init.body

-- The lines are those of the inits, one each.
abbrev pub AreInits : Scenario → List (List (List ℕ)) → List Init → Type 0
AreInits s [] [] = Unit {0}
AreInits s [] (init ∷ inits) = ⊥
AreInits s (words ∷ statements) [] = ⊥
AreInits s (words ∷ statements) (init ∷ inits) = IsInit s words init × AreInits s statements inits

-- The words are those of a line `cluster M`.
abbrev pub IsCluster : List (List ℕ) → ℕ → Type 0
IsCluster words m = (count : List ℕ) × (words ≡ codes "cluster" ∷ count ∷ []) × IsNumber count m 1 MOST_PROCESSORS

-- The lines are those of the clusters, one each.
abbrev pub AreClusters : List (List (List ℕ)) → List ℕ → Type 0
AreClusters [] [] = Unit {0}
AreClusters [] (m ∷ ms) = ⊥
AreClusters (words ∷ statements) [] = ⊥
AreClusters (words ∷ statements) (m ∷ ms) = IsCluster words m × AreClusters statements ms

-- the processors of all clusters
abbrev pub cpus_in : List ℕ → ℕ
cpus_in [] = 0
cpus_in (m ∷ ms) = m + cpus_in ms

-- The words are those of a line `ticks N`.
pub record IsTicks (words : List (List ℕ)) (horizon : ℕ) : Type 0 where
  pub ticks : List ℕ
  pub words_are : words ≡ codes "ticks" ∷ ticks ∷ []
  pub number : IsNumber ticks horizon 0 MOST_TICKS

-- The lines are one line `limit N`, or none, and then the limit is 200,000.
abbrev pub IsLimit : List (List (List ℕ)) → ℕ → Type 0
IsLimit [] limit = limit ≡ USUAL_ENTRIES
IsLimit (words ∷ []) limit = (number : List ℕ) × (words ≡ codes "limit" ∷ number ∷ []) × IsNumber number limit 1 MOST_ENTRIES
IsLimit (words ∷ more ∷ statements) limit = ⊥

-- The lines, in this order: `rtems 1`; one to four clusters with at most 8 processors in all; `ticks N`; at most one `limit N`; at most 32 bodies with different names; at most 64 init lines.
pub record Describes (statements : List (List (List ℕ))) (s : Scenario) : Type 0 where
  pub clusters : List (List (List ℕ))
  pub ticks : List (List ℕ)
  pub limits : List (List (List ℕ))
  pub bodies : List (List (List ℕ))
  pub inits : List (List (List ℕ))
  pub statements_are : statements ≡ (codes "rtems" ∷ codes "1" ∷ []) ∷ clusters ++ ticks ∷ limits ++ bodies ++ inits
  pub clusters_are : AreClusters clusters s.clusters
  pub some_cluster : 0 < length s.clusters
  pub few_clusters : length s.clusters ≤ MOST_CLUSTERS
  pub few_cpus : cpus_in s.clusters ≤ MOST_PROCESSORS
  pub ticks_are : IsTicks ticks s.horizon
  pub limit_is : IsLimit limits s.limit
  pub bodies_are : AreBodies (length s.clusters) [] bodies s.bodies
  pub few_bodies : length s.bodies ≤ MOST_BODIES
  pub distinct : AreDistinct s.bodies
  pub inits_are : AreInits s inits s.inits
  pub few_inits : length s.inits ≤ MOST_OBJECTS

-- The bytes are a text of the scenario: at most 1,048,576 bytes, in lines of allowed bytes, and the lines that aren't skipped tell the scenario.
pub record ScenarioText (bytes : List ℕ) (s : Scenario) : Type 0 where
  pub size : length bytes ≤ MOST_BYTES
  pub allowed : AllByRecursion (λ line. is_plain line ≡ true) (lines_of bytes)
  pub lines : Describes (told_lines bytes) s

-- Some bytes are a text of the scenario.
pub record IsScenario (s : Scenario) : Type 0 where
  pub bytes : List ℕ
  pub text : ScenarioText bytes s
