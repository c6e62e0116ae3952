-- The machine by which a scenario's text is gone through, line by line, and the first fault that it meets.
use Rattle.std.specs.Prelude.{ℕ, ◌+◌, List, [], ◌∷◌, ◌++◌, Bool, true, false, ◌&&◌, not, Option, Some, None, Result, Ok, Err, is_some, nat_lt, nat_le, length, codes, if◌then◌else◌}
use Rattle.std.specs.Str.{bytes_eq}
use Rattle.rk_model.specs.declared.limits.TheConstants.{LEAST_URGENT, MOST_BODIES, MOST_BYTES, MOST_CLUSTERS, MOST_ENTRIES, MOST_LINES, MOST_OBJECTS, MOST_PROCESSORS, MOST_TICKS, USUAL_ENTRIES}
use Rattle.rk_model.specs.declared.scenario.Op.{Op}
use Rattle.rk_model.specs.declared.numbers.Name.{Name as NameOf}
use Rattle.rk_model.specs.declared.scenario.Target.{Target}
use Rattle.rk_model.specs.declared.scenario.Target.TheVariants.{Var, Own, Given}
use Rattle.rk_model.specs.declared.scenario.Wish.{Wish}
use Rattle.rk_model.specs.declared.scenario.Wish.TheVariants.{NoWait, Limit}
use Rattle.rk_model.specs.declared.scenario.Body.{Body}
use Rattle.rk_model.specs.declared.scenario.Init.{Init}
use Rattle.rk_model.specs.declared.scenario.Scenario.{Scenario}
use Rattle.rk_model.specs.declared.scenario.ScenarioWhy.{ScenarioWhy}
use Rattle.rk_model.specs.declared.scenario.ScenarioWhy.TheVariants.{Header, Word, Number, Range, UnknownName, Repeated, TooMany, MissingEnd, NotAscii, TooLarge}
use Rattle.rk_model.specs.declared.semaphore.SemKind.{SemKind}
use Rattle.rk_model.specs.declared.semaphore.Protocol.{Protocol as ProtocolOf}
use Rattle.rk_model.specs.declared.waiting.Order.{Order as OrderOf}
use Rattle.rk_model.specs.Text.Words.{lines_of, words_of, is_plain, is_skipped, number_of, name_of, name0_of, var_of, is_body_name, semaphore_kind_of, order_of, protocol_of}
use Rattle.rk_model.specs.Text.Forms.{Operand, Value, Makes, Form, Row, form_of, form_in}
use Rattle.rk_model.specs.Text.Scenarios.{Known, body_of, body_known, cpus_in, is_target}

-- How far the lines have come that aren't skipped.
pub data Phase : Type 0 where
  -- there was none
  Start : Phase
  -- the header
  Headed : Phase
  -- a cluster
  Clustered : Phase
  -- the ticks
  Timed : Phase
  -- the limit, or a whole body
  Limited : Phase
  -- the first line of a body, and not its `end`
  InBody : Phase
  -- an init line
  InInits : Phase

-- What has been read so far: the scenario of the lines so far, and of the body that is open its name and lines.
pub record Draft : Type 0 where
  pub phase : Phase
  pub scenario : Scenario
  pub body : Body

-- the body of a draft in which none is open
abbrev pub no_body : Body
no_body = record { name = []; lines = [] }

-- the draft before the first line
abbrev pub start : Draft
start = record {
  phase = Start;
  scenario = record { clusters = []; horizon = 0; limit = USUAL_ENTRIES; bodies = []; inits = [] };
  body = no_body;
}

-- what comes next where nothing is wrong, and else what is wrong
infixl 10 ◌>>=◌
abbrev pub ◌>>=◌ : {A B : Type 0} → Result A ScenarioWhy → (A → Result B ScenarioWhy) → Result B ScenarioWhy
(Ok x) >>= f = f x
(Err why) >>= f = Err why

-- ---- operands

-- a number from least to most
abbrev pub within : ℕ → ℕ → Option ℕ → Result ℕ ScenarioWhy
within least most None = Err Number
within least most (Some n) = if nat_le least n && nat_le n most then Ok n else Err Range

-- a number below another
abbrev pub below : ℕ → Option ℕ → Result ℕ ScenarioWhy
below count None = Err Number
below count (Some n) = if nat_lt n count then Ok n else Err Range

-- the name of a number where there is one
abbrev pub named : Option ℕ → Result NameOf ScenarioWhy
named None = Err Word
named (Some n) = Ok (record { bits = n })

-- a number, or another value, where there is one
abbrev pub given_value : {X : Type 0} → Option X → Result X ScenarioWhy
given_value None = Err Word
given_value (Some n) = Ok n

-- the number of a body where there is one of the name that a word is
abbrev pub body_told : List ℕ → Option ℕ → Result ℕ ScenarioWhy
body_told word None = if is_body_name word then Err UnknownName else Err Word
body_told word (Some b) = Ok b

-- the number from least to most that a word spells
unfoldable pub number_operand : ℕ → ℕ → List ℕ → Result ℕ ScenarioWhy
number_operand least most word = within least most (number_of word)

-- the number of a cluster, of which there are so many
unfoldable pub cluster_operand : ℕ → List ℕ → Result ℕ ScenarioWhy
cluster_operand count word = below count (number_of word)

-- the name that a word spells, which may be 0
unfoldable pub name0_operand : List ℕ → Result NameOf ScenarioWhy
name0_operand word = named (name0_of word)

-- the number of the variable that a word spells
unfoldable pub var_operand : List ℕ → Result ℕ ScenarioWhy
var_operand word = given_value (var_of word)

-- an ID or an address that is a number
abbrev pub given_operand : List ℕ → Result Target ScenarioWhy
given_operand word = do
  bits ← number_operand 0 4294967295 word
  Ok (Given bits)

-- an ID that is no variable: `self`, or a number
unfoldable pub fixed_operand : List ℕ → Result Target ScenarioWhy
fixed_operand word = if bytes_eq word (codes "self") then Ok Own else given_operand word

-- an ID where this says which variable it is, if it is one
abbrev pub id_by : Option ℕ → Result Target ScenarioWhy → Result Target ScenarioWhy
id_by (Some var) other = Ok (Var var)
id_by None other = other

-- an ID: a variable, `self`, or a number
unfoldable pub id_operand : List ℕ → Result Target ScenarioWhy
id_operand word = id_by (var_of word) (fixed_operand word)

-- an ADDRESS: a variable, or a number
unfoldable pub address_operand : List ℕ → Result Target ScenarioWhy
address_operand word = id_by (var_of word) (given_operand word)

-- the number of the body whose name the word is, of those that a line of a body may name
unfoldable pub start_operand : Known → List ℕ → Result ℕ ScenarioWhy
start_operand known word = body_told word (body_known known.bodies known.own word)

-- the number of one of these earlier lines that isn't a goto
abbrev pub led : List Op → Option ℕ → Result ℕ ScenarioWhy
led earlier None = Err Number
led earlier (Some n) = if is_target earlier n then Ok n else Err Range

-- the number that a word spells of one of these earlier lines that isn't a goto
unfoldable pub goto_operand : List Op → List ℕ → Result ℕ ScenarioWhy
goto_operand earlier word = led earlier (number_of word)

-- the name that a word spells
unfoldable pub name_operand : List ℕ → Result NameOf ScenarioWhy
name_operand word = named (name_of word)

-- the number of the body of these whose name the word is
unfoldable pub body_operand : List Body → List ℕ → Result ℕ ScenarioWhy
body_operand bodies word = body_told word (body_of bodies word)

-- the second of two words, as true, or the first
unfoldable pub either_operand : List ℕ → List ℕ → List ℕ → Result Bool ScenarioWhy
either_operand first second word =
    if bytes_eq word second then Ok true
    else (if bytes_eq word first then Ok false else Err Word)

-- a WISH: `nowait`, or a number of ticks
unfoldable pub wish_operand : List ℕ → Result Wish ScenarioWhy
wish_operand word =
    if bytes_eq word (codes "nowait") then Ok NoWait
    else (do
      ticks ← number_operand 0 4294967295 word
      Ok (Limit ticks))

-- the kind, the order and the protocol of a semaphore that a word spells
unfoldable pub semaphore_kind_operand : List ℕ → Result SemKind ScenarioWhy
semaphore_kind_operand word = given_value (semaphore_kind_of word)

unfoldable pub order_operand : List ℕ → Result OrderOf ScenarioWhy
order_operand word = given_value (order_of word)

unfoldable pub protocol_operand : List ℕ → Result ProtocolOf ScenarioWhy
protocol_operand word = given_value (protocol_of word)

-- the value of an operand that a word spells, in a line that may refer to what is known there
unfoldable pub operand_of : Known → (o : Operand) → List ℕ → Result (Value o) ScenarioWhy
operand_of known (Operand.Number least most) word = number_operand least most word
operand_of known Operand.Name word = name_operand word
operand_of known Operand.Name0 word = name0_operand word
operand_of known Operand.Var word = var_operand word
operand_of known Operand.Id word = id_operand word
operand_of known Operand.Address word = address_operand word
operand_of known Operand.Cluster word = cluster_operand known.clusters word
operand_of known Operand.B word = start_operand known word
operand_of known Operand.Earlier word = goto_operand known.earlier word
operand_of known Operand.Mode word = either_operand (codes "any") (codes "all") word
operand_of known Operand.Kind word = either_operand (codes "manual") (codes "auto") word
operand_of known Operand.Wish word = wish_operand word
operand_of known Operand.SemaphoreKind word = semaphore_kind_operand word
operand_of known Operand.Order word = order_operand word
operand_of known Operand.Protocol word = protocol_operand word

-- ---- the lines of a body

-- whether there is a word for each operand
abbrev pub fits : List Operand → List (List ℕ) → Bool
fits [] [] = true
fits [] (word ∷ words) = false
fits (o ∷ operands) [] = false
fits (o ∷ operands) (word ∷ words) = fits operands words

-- what the values make that the words spell, from left to right
abbrev pub made_of : Known → (operands : List Operand) → Makes operands → List (List ℕ) → Result Op ScenarioWhy
made_of known [] made [] = Ok made
made_of known [] made (word ∷ words) = Err Word
made_of known (o ∷ operands) made [] = Err Word
made_of known (o ∷ operands) made (word ∷ words) = do
  value ← operand_of known o word
  made_of known operands (made value) words

-- what a line of a form stands for, by the words behind its first
unfoldable pub form_line : Known → Form → List (List ℕ) → Result Op ScenarioWhy
form_line known (Row first operands made) words = if fits operands words then made_of known operands made words else Err Word

-- what a line stands for of the form of this op, if there is one
abbrev pub line_like : Known → Option Op → List (List ℕ) → Result Op ScenarioWhy
line_like known None words = Err Word
line_like known (Some op) words = form_line known (form_of op) words

-- what a line of a body stands for, which may refer to what is known there, by its words
unfoldable pub op_line : Known → List (List ℕ) → Result Op ScenarioWhy
op_line known [] = Err Word
op_line known (first ∷ words) = line_like known (form_in first) words

-- ---- the lines of a scenario, each by the words behind its first: the draft after it

-- the words are `rtems 1`
unfoldable pub is_header : List (List ℕ) → Bool
is_header [] = false
is_header (first ∷ []) = false
is_header (first ∷ second ∷ []) = bytes_eq first (codes "rtems") && bytes_eq second (codes "1")
is_header (first ∷ second ∷ third ∷ words) = false

-- the draft with one cluster more, of so many processors
abbrev pub with_cluster : Draft → ℕ → Draft
with_cluster d m = record d { phase = Clustered; scenario = record d.scenario { clusters = d.scenario.clusters ++ m ∷ [] } }

-- `cluster M`
unfoldable pub cluster_line : Draft → List (List ℕ) → Result Draft ScenarioWhy
cluster_line d [] = Err Word
cluster_line d (count ∷ []) = do
  m ← number_operand 1 MOST_PROCESSORS count
  if nat_lt (length d.scenario.clusters) MOST_CLUSTERS && nat_le (cpus_in d.scenario.clusters + m) MOST_PROCESSORS then Ok (with_cluster d m) else Err TooMany
cluster_line d (count ∷ more ∷ words) = Err Word

-- `ticks N`
unfoldable pub ticks_line : Draft → List (List ℕ) → Result Draft ScenarioWhy
ticks_line d [] = Err Word
ticks_line d (ticks ∷ []) = do
  n ← number_operand 0 MOST_TICKS ticks
  Ok (record d { phase = Timed; scenario = record d.scenario { horizon = n } })
ticks_line d (ticks ∷ more ∷ words) = Err Word

-- `limit N`
unfoldable pub limit_line : Draft → List (List ℕ) → Result Draft ScenarioWhy
limit_line d [] = Err Word
limit_line d (number ∷ []) = do
  n ← number_operand 1 MOST_ENTRIES number
  Ok (record d { phase = Limited; scenario = record d.scenario { limit = n } })
limit_line d (number ∷ more ∷ words) = Err Word

-- `body B`, with a name that no body has so far
unfoldable pub body_line : Draft → List (List ℕ) → Result Draft ScenarioWhy
body_line d [] = Err Word
body_line d (name ∷ []) =
    if not (is_body_name name) then Err Word
    else (if is_some (body_of d.scenario.bodies name) then Err Repeated
    else (if nat_lt (length d.scenario.bodies) MOST_BODIES then Ok (record d { phase = InBody; body = record { name = name; lines = [] } })
    else Err TooMany))
body_line d (name ∷ more ∷ words) = Err Word

-- the words are `end`
unfoldable pub is_end : List (List ℕ) → Bool
is_end [] = false
is_end (first ∷ []) = bytes_eq first (codes "end")
is_end (first ∷ second ∷ words) = false

-- the draft in which the open body has become one of the bodies
abbrev pub with_body : Draft → Draft
with_body d = record d { phase = Limited; scenario = record d.scenario { bodies = d.scenario.bodies ++ d.body ∷ [] }; body = no_body }

-- the draft in which the open body has one line more
abbrev pub with_op : Draft → Op → Draft
with_op d op = record d { body = record d.body { lines = d.body.lines ++ op ∷ [] } }

-- what a line of this open body may refer to, behind what has been read of the scenario
abbrev pub known_at : Scenario → Body → Known
known_at s body = record { clusters = length s.clusters; bodies = s.bodies; own = body.name; earlier = body.lines }

-- a line of the open body that isn't its `end`
unfoldable pub inner_line : Draft → List (List ℕ) → Result Draft ScenarioWhy
inner_line d words = do
  op ← op_line (known_at d.scenario d.body) words
  if nat_lt (length d.body.lines) MOST_LINES then Ok (with_op d op) else Err TooMany

-- what the words behind `init` stand for
unfoldable pub init_operands : Scenario → List (List ℕ) → Result Init ScenarioWhy
init_operands s [] = Err Word
init_operands s (name ∷ []) = Err Word
init_operands s (name ∷ cluster ∷ []) = Err Word
init_operands s (name ∷ cluster ∷ priority ∷ []) = Err Word
init_operands s (name ∷ cluster ∷ priority ∷ body ∷ []) = do
  called ← name_operand name
  c ← cluster_operand (length s.clusters) cluster
  p ← number_operand 1 LEAST_URGENT priority
  b ← body_operand s.bodies body
  Ok (record { name = called; cluster = c; prio = p; body = b })
init_operands s (name ∷ cluster ∷ priority ∷ body ∷ more ∷ words) = Err Word

-- the draft with one init more
abbrev pub with_init : Draft → Init → Draft
with_init d init = record d { phase = InInits; scenario = record d.scenario { inits = d.scenario.inits ++ init ∷ [] } }

-- `init NAME CLUSTER PRIORITY B`
unfoldable pub init_line : Draft → List (List ℕ) → Result Draft ScenarioWhy
init_line d operands = do
  init ← init_operands d.scenario operands
  if nat_lt (length d.scenario.inits) MOST_OBJECTS then Ok (with_init d init) else Err TooMany

-- ---- what may come at each phase: the draft after a line of these words

-- the header alone
abbrev pub at_start : Draft → List (List ℕ) → Result Draft ScenarioWhy
at_start d words = if is_header words then Ok (record d { phase = Headed }) else Err Header

-- a cluster
abbrev pub at_headed : Draft → List (List ℕ) → Result Draft ScenarioWhy
at_headed d [] = Err Word
at_headed d (first ∷ operands) = if bytes_eq first (codes "cluster") then cluster_line d operands else Err Word

-- the ticks, or another cluster
abbrev pub at_clustered : Draft → List (List ℕ) → Result Draft ScenarioWhy
at_clustered d [] = Err Word
at_clustered d (first ∷ operands) = if bytes_eq first (codes "ticks") then ticks_line d operands else at_headed d (first ∷ operands)

-- an init
abbrev pub at_inits : Draft → List (List ℕ) → Result Draft ScenarioWhy
at_inits d [] = Err Word
at_inits d (first ∷ operands) = if bytes_eq first (codes "init") then init_line d operands else Err Word

-- a body or an init
abbrev pub at_limited : Draft → List (List ℕ) → Result Draft ScenarioWhy
at_limited d [] = Err Word
at_limited d (first ∷ operands) = if bytes_eq first (codes "body") then body_line d operands else at_inits d (first ∷ operands)

-- the limit, a body or an init
abbrev pub at_timed : Draft → List (List ℕ) → Result Draft ScenarioWhy
at_timed d [] = Err Word
at_timed d (first ∷ operands) = if bytes_eq first (codes "limit") then limit_line d operands else at_limited d (first ∷ operands)

-- the end of the open body, or a line of it
abbrev pub in_body : Draft → List (List ℕ) → Result Draft ScenarioWhy
in_body d words = if is_end words then Ok (with_body d) else inner_line d words

-- the draft after a line that isn't skipped, by the phase before it
abbrev pub after_statement : Phase → Draft → List (List ℕ) → Result Draft ScenarioWhy
after_statement Start d words = at_start d words
after_statement Headed d words = at_headed d words
after_statement Clustered d words = at_clustered d words
after_statement Timed d words = at_timed d words
after_statement Limited d words = at_limited d words
after_statement InBody d words = in_body d words
after_statement InInits d words = at_inits d words

-- the draft after a line of these words, or what is wrong with it
unfoldable pub after_words : Draft → List (List ℕ) → Result Draft ScenarioWhy
after_words d words = if is_skipped words then Ok d else after_statement d.phase d words

-- the draft after a line
unfoldable pub after_line : Draft → List ℕ → Result Draft ScenarioWhy
after_line d line = if is_plain line then after_words d (words_of line) else Err NotAscii

-- ---- the lines of a text

-- A fault: the number of its line, from 1, or 0 for the whole text; and what is wrong.
pub record Fault : Type 0 where
  pub line : ℕ
  pub why : ScenarioWhy

-- What reading gives: the scenario, or the first fault.
pub data Verdict : Type 0 where
  Reads : Scenario → Verdict
  Faults : Fault → Verdict

-- what lines give that end at this phase, where the number n is that of the line that is wanting
abbrev pub at_end : Phase → Scenario → ℕ → Verdict
at_end Start s n = Faults (record { line = n; why = Header })
at_end Headed s n = Faults (record { line = n; why = MissingEnd })
at_end Clustered s n = Faults (record { line = n; why = MissingEnd })
at_end Timed s n = Reads s
at_end Limited s n = Reads s
at_end InBody s n = Faults (record { line = n; why = MissingEnd })
at_end InInits s n = Reads s

-- the verdict where the line of number n gave this draft or fault, and rest is the verdict on what follows
abbrev pub goes_on : Result Draft ScenarioWhy → ℕ → (Draft → Verdict) → Verdict
goes_on (Ok d) n rest = rest d
goes_on (Err why) n rest = Faults (record { line = n; why = why })

-- the verdict on lines behind those of a draft, of which the first has the number n
abbrev pub verdict_from : Draft → ℕ → List (List ℕ) → Verdict
verdict_from d n [] = at_end d.phase d.scenario n
verdict_from d n (line ∷ lines) = goes_on (after_line d line) n (λ next. verdict_from next (n + 1) lines)

-- the verdict on a text
abbrev pub verdict : List ℕ → Verdict
verdict bytes = if nat_lt MOST_BYTES (length bytes) then Faults (record { line = 0; why = TooLarge }) else verdict_from start 1 (lines_of bytes)

-- the fault of a verdict
abbrev pub fault_in : Verdict → Option Fault
fault_in (Reads s) = None
fault_in (Faults fault) = Some fault

-- The first line that no valid scenario could have there, and what is wrong with it; none where the bytes are a text.
abbrev pub scenario_fault : List ℕ → Option Fault
scenario_fault bytes = fault_in (verdict bytes)
