-- Which reason a fault has: what is wrong, and with which line of the text.
-- In the first line that is wrong, the first that is wrong in this order: a byte; the header; the first word; the number of words; the words behind the first, from left to right; that it is one line too many.
use Rattle.std.specs.Prelude.{ℕ, ◌+◌, ◌≡◌, ◌≤◌, ◌<◌, ◌↔◌, ◌⊎◌, Bool, true, false, List, [], ◌∷◌, length, map, take, Option, Some, None, Ok, slice_get, codes, if◌then◌else◌}
use Rattle.std.specs.List.{AllByRecursion}
use Rattle.std.specs.Option.{option_map}
use Rattle.std.specs.Str.{bytes_eq}
use Rattle.rk_model.specs.declared.limits.TheConstants.{LEAST_URGENT, MOST_BODIES, MOST_BYTES, MOST_CLUSTERS, MOST_ENTRIES, MOST_LINES, MOST_OBJECTS, MOST_PROCESSORS, MOST_TICKS}
use Rattle.rk_model.specs.declared.scenario.Op.{Op}
use Rattle.rk_model.specs.declared.scenario.ScenarioWhy.{ScenarioWhy}
use Rattle.rk_model.specs.declared.scenario.ScenarioWhy.TheVariants.{Word, Number, Range, UnknownName, Repeated}
use Rattle.rk_model.specs.Text.Words.{lines_of, words_of, is_plain, is_skipped, number_of, name_of, name0_of, var_of, is_body_name, semaphore_kind_of, order_of, protocol_of}
use Rattle.rk_model.specs.Text.Forms.{Operand, Value, Form, Row, form_of, form_in, word_of}
use Rattle.rk_model.specs.Text.Scenarios.{IsSpelled, IsEither, body_of, body_known, cpus_in, is_target}
use Rattle.rk_model.specs.Text.Reading.{Phase, Start, Headed, Clustered, Timed, Limited, InBody, InInits, Draft, start, known_at, after_line, scenario_fault}

-- ---- the lines that may come

-- What a word behind the first of a line stands for.
pub data Slot : Type 0 where
  -- what an operand of a line of a body may stand for
  Of : Operand → Slot
  -- the name of a body that begins
  NewBody : Slot
  -- the name of a body that has ended
  WholeBody : Slot

-- What a line behind the header may be.
pub data LineKind : Type 0 where
  -- `cluster M`
  ClusterLine : LineKind
  -- `ticks N`
  TicksLine : LineKind
  -- `limit N`
  LimitLine : LineKind
  -- `body B`
  BodyLine : LineKind
  -- a line of a body, of the form of this op
  OpLine : Op → LineKind
  -- `end`
  EndLine : LineKind
  -- `init NAME CLUSTER PRIORITY B`
  InitLine : LineKind

-- the first word of a line of this kind
abbrev pub first_of : LineKind → List ℕ
first_of ClusterLine = codes "cluster"
first_of TicksLine = codes "ticks"
first_of LimitLine = codes "limit"
first_of BodyLine = codes "body"
first_of (OpLine op) = word_of op
first_of EndLine = codes "end"
first_of InitLine = codes "init"

-- the operands of a form
abbrev pub operands_in : Form → List Operand
operands_in (Row first operands made) = operands

-- what the words behind the first of a line of this kind stand for
abbrev pub slots_of : LineKind → List Slot
slots_of ClusterLine = Of (Operand.Number 1 MOST_PROCESSORS) ∷ []
slots_of TicksLine = Of (Operand.Number 0 MOST_TICKS) ∷ []
slots_of LimitLine = Of (Operand.Number 1 MOST_ENTRIES) ∷ []
slots_of BodyLine = NewBody ∷ []
slots_of (OpLine op) = map Of (operands_in (form_of op))
slots_of EndLine = []
slots_of InitLine = Of Operand.Name ∷ Of Operand.Cluster ∷ Of (Operand.Number 1 LEAST_URGENT) ∷ WholeBody ∷ []

-- the kind among these of a line with this first word
abbrev pub kind_among : List LineKind → List ℕ → Option LineKind
kind_among [] first = None
kind_among (kind ∷ kinds) first = if bytes_eq first (first_of kind) then Some kind else kind_among kinds first

-- The kind of a line with this first word that may come where the lines have come so far; none where no such line may come. How many lines of the kind there are is not asked.
abbrev pub kind_at : Phase → List ℕ → Option LineKind
kind_at Start first = None
kind_at Headed first = kind_among (ClusterLine ∷ []) first
kind_at Clustered first = kind_among (TicksLine ∷ ClusterLine ∷ []) first
kind_at Timed first = kind_among (LimitLine ∷ BodyLine ∷ InitLine ∷ []) first
kind_at Limited first = kind_among (BodyLine ∷ InitLine ∷ []) first
kind_at InBody first = if bytes_eq first (codes "end") then Some EndLine else option_map OpLine (form_in first)
kind_at InInits first = kind_among (InitLine ∷ []) first

-- ---- words that are right

-- The word is right in the slot, in a line behind those of this draft.
abbrev pub IsFit : Draft → Slot → List ℕ → Type 0
IsFit d (Of operand) word = (value : Value operand) × IsSpelled (known_at d.scenario d.body) operand word value
IsFit d NewBody word = (is_body_name word ≡ true) × (body_of d.scenario.bodies word ≡ None)
IsFit d WholeBody word = (body : ℕ) × (body_of d.scenario.bodies word ≡ Some body)

-- There is one word for each slot, and each is right.
abbrev pub AreFit : Draft → List Slot → List (List ℕ) → Type 0
AreFit d [] [] = Unit {0}
AreFit d [] (word ∷ words) = ⊥
AreFit d (slot ∷ slots) [] = ⊥
AreFit d (slot ∷ slots) (word ∷ words) = IsFit d slot word × AreFit d slots words

-- ---- words that are wrong

-- The slot takes no number, and the word isn't spelled as what it takes: it is no name, no variable, none of the words that may stand there, or nothing that a body may be called.
abbrev pub IsMisspelled : Slot → List ℕ → Type 0
IsMisspelled (Of Operand.Name) word = name_of word ≡ None
IsMisspelled (Of Operand.Name0) word = name0_of word ≡ None
IsMisspelled (Of Operand.Var) word = var_of word ≡ None
IsMisspelled (Of Operand.B) word = is_body_name word ≡ false
IsMisspelled (Of Operand.Mode) word = (all : Bool) → IsEither word (codes "any") (codes "all") all → ⊥
IsMisspelled (Of Operand.Kind) word = (automatic : Bool) → IsEither word (codes "manual") (codes "auto") automatic → ⊥
IsMisspelled (Of Operand.SemaphoreKind) word = semaphore_kind_of word ≡ None
IsMisspelled (Of Operand.Order) word = order_of word ≡ None
IsMisspelled (Of Operand.Protocol) word = protocol_of word ≡ None
IsMisspelled NewBody word = is_body_name word ≡ false
IsMisspelled WholeBody word = is_body_name word ≡ false
IsMisspelled _ word = ⊥

-- whether a slot takes numbers
abbrev pub takes_numbers : Slot → Bool
takes_numbers (Of (Operand.Number least most)) = true
takes_numbers (Of Operand.Id) = true
takes_numbers (Of Operand.Address) = true
takes_numbers (Of Operand.Cluster) = true
takes_numbers (Of Operand.Earlier) = true
takes_numbers (Of Operand.Wish) = true
takes_numbers _ = false

-- The slot takes the word in place of a number: for an ID a variable or `self`, for an address a variable, for how long to wait `nowait`.
abbrev pub ReplacesNumber : Slot → List ℕ → Type 0
ReplacesNumber (Of Operand.Id) word = ((var : ℕ) × (var_of word ≡ Some var)) ⊎ (word ≡ codes "self")
ReplacesNumber (Of Operand.Address) word = (var : ℕ) × (var_of word ≡ Some var)
ReplacesNumber (Of Operand.Wish) word = word ≡ codes "nowait"
ReplacesNumber _ word = ⊥

-- The slot takes numbers, and the word neither spells one nor may stand in place of one.
pub record IsNoNumber (slot : Slot) (word : List ℕ) : Type 0 where
  pub numbers : takes_numbers slot ≡ true
  pub none : number_of word ≡ None
  pub other : ReplacesNumber slot word → ⊥

-- The number is one of those that the slot takes: from the least to the most; of 32 bits; that of a cluster; that of an earlier line of the body that isn't a goto.
abbrev pub IsInRange : Draft → Slot → ℕ → Type 0
IsInRange d (Of (Operand.Number least most)) n = (least ≤ n) × (n ≤ most)
IsInRange d (Of Operand.Id) n = n ≤ 4294967295
IsInRange d (Of Operand.Address) n = n ≤ 4294967295
IsInRange d (Of Operand.Cluster) n = n < length d.scenario.clusters
IsInRange d (Of Operand.Earlier) n = is_target d.body.lines n ≡ true
IsInRange d (Of Operand.Wish) n = n ≤ 4294967295
IsInRange d _ n = ⊥

-- The slot takes numbers, and the word spells one that it doesn't take.
pub record IsOutOfRange (d : Draft) (slot : Slot) (word : List ℕ) : Type 0 where
  pub numbers : takes_numbers slot ≡ true
  pub number : ℕ
  pub value : number_of word ≡ Some number
  pub outside : IsInRange d slot number → ⊥

-- A body may be called so, and none is that the line may name: a line of a body may name the bodies in front of its own, and its own; an init line any body.
abbrev pub IsUnknownName : Draft → Slot → List ℕ → Type 0
IsUnknownName d (Of Operand.B) word = (is_body_name word ≡ true) × (body_known d.scenario.bodies d.body.name word ≡ None)
IsUnknownName d WholeBody word = (is_body_name word ≡ true) × (body_of d.scenario.bodies word ≡ None)
IsUnknownName d _ word = ⊥

-- A body begins, and an earlier one is called so.
abbrev pub IsRepeatedName : Draft → Slot → List ℕ → Type 0
IsRepeatedName d NewBody word = (body : ℕ) × (is_body_name word ≡ true) × (body_of d.scenario.bodies word ≡ Some body)
IsRepeatedName d _ word = ⊥

-- The word is wrong in the slot, for this reason.
abbrev pub IsUnfit : Draft → Slot → List ℕ → ScenarioWhy → Type 0
IsUnfit d slot word Word = IsMisspelled slot word
IsUnfit d slot word Number = IsNoNumber slot word
IsUnfit d slot word Range = IsOutOfRange d slot word
IsUnfit d slot word UnknownName = IsUnknownName d slot word
IsUnfit d slot word Repeated = IsRepeatedName d slot word
IsUnfit d slot word _ = ⊥

-- From left to right, the first word that isn't right in its slot is wrong for this reason.
abbrev pub FirstUnfitIs : Draft → List Slot → List (List ℕ) → ScenarioWhy → Type 0
FirstUnfitIs d (slot ∷ slots) (word ∷ words) why = IsUnfit d slot word why ⊎ (IsFit d slot word × FirstUnfitIs d slots words why)
FirstUnfitIs d _ _ why = ⊥

-- ---- lines too many

-- With a cluster of the processors that these words spell the clusters have more than 8.
abbrev pub HasTooManyProcessors : Draft → List (List ℕ) → Type 0
HasTooManyProcessors d (count ∷ []) = (m : ℕ) × (number_of count ≡ Some m) × (MOST_PROCESSORS < cpus_in d.scenario.clusters + m)
HasTooManyProcessors d _ = ⊥

-- There may be no line more of this kind and of these words: there are four clusters, or more than 8 processors with this one; 32 bodies; 1,000 lines in the body; 64 init lines.
abbrev pub HasNoRoom : Draft → LineKind → List (List ℕ) → Type 0
HasNoRoom d ClusterLine words = (MOST_CLUSTERS ≤ length d.scenario.clusters) ⊎ HasTooManyProcessors d words
HasNoRoom d BodyLine words = MOST_BODIES ≤ length d.scenario.bodies
HasNoRoom d (OpLine op) words = MOST_LINES ≤ length d.body.lines
HasNoRoom d InitLine words = MOST_OBJECTS ≤ length d.scenario.inits
HasNoRoom d _ words = ⊥

-- ---- lines of a text

-- Reading these lines from a draft on leads to another: none of them is wrong.
abbrev pub Lead : Draft → List (List ℕ) → Draft → Type 0
Lead d [] to = d ≡ to
Lead d (line ∷ lines) to = (next : Draft) × (after_line d line ≡ Ok next) × Lead next lines to

-- The line of this number consists of these bytes, and the lines in front of it lead to the draft. The text isn't too large.
pub record IsReached (bytes : List ℕ) (line : ℕ) (d : Draft) (text : List ℕ) : Type 0 where
  pub size : length bytes ≤ MOST_BYTES
  pub front : ℕ
  pub number : line ≡ front + 1
  pub lead : Lead start (take front (lines_of bytes)) d
  pub there : slice_get (lines_of bytes) front ≡ Some text

-- Such a line stands behind the header, has allowed bytes alone, isn't skipped, and consists of this first word and these behind it.
pub record IsStatement (bytes : List ℕ) (line : ℕ) (d : Draft) (first : List ℕ) (words : List (List ℕ)) : Type 0 where
  pub text : List ℕ
  pub reached : IsReached bytes line d text
  pub header : d.phase ≡ Start → ⊥
  pub allowed : is_plain text ≡ true
  pub words_are : words_of text ≡ first ∷ words
  pub kept : is_skipped (first ∷ words) ≡ false

-- Such a line is of a kind that may come there, and these words stand behind its first.
pub record IsOfKind (bytes : List ℕ) (line : ℕ) (d : Draft) (kind : LineKind) (words : List (List ℕ)) : Type 0 where
  pub first : List ℕ
  pub statement : IsStatement bytes line d first words
  pub kind_is : kind_at d.phase first ≡ Some kind

-- The first word of the line isn't that of a line that may come there.
pub record HasStrangeFirst (bytes : List ℕ) (line : ℕ) : Type 0 where
  pub draft : Draft
  pub first : List ℕ
  pub words : List (List ℕ)
  pub statement : IsStatement bytes line draft first words
  pub strange : kind_at draft.phase first ≡ None

-- The line has more or fewer words than one of its kind.
pub record HasWrongCount (bytes : List ℕ) (line : ℕ) : Type 0 where
  pub draft : Draft
  pub kind : LineKind
  pub words : List (List ℕ)
  pub of_kind : IsOfKind bytes line draft kind words
  pub count : length words ≡ length (slots_of kind) → ⊥

-- The line has as many words as one of its kind, and of those behind the first the first that isn't right is wrong for this reason.
pub record HasUnfitWord (bytes : List ℕ) (line : ℕ) (why : ScenarioWhy) : Type 0 where
  pub draft : Draft
  pub kind : LineKind
  pub words : List (List ℕ)
  pub of_kind : IsOfKind bytes line draft kind words
  pub count : length words ≡ length (slots_of kind)
  pub unfit : FirstUnfitIs draft (slots_of kind) words why

-- The line has allowed bytes alone, and is skipped.
pub record IsPassed (text : List ℕ) : Type 0 where
  pub allowed : is_plain text ≡ true
  pub skipped : is_skipped (words_of text) ≡ true

-- The line has allowed bytes alone, isn't skipped, and its words aren't `rtems 1`.
pub record IsNoHeader (text : List ℕ) : Type 0 where
  pub allowed : is_plain text ≡ true
  pub kept : is_skipped (words_of text) ≡ false
  pub other : words_of text ≡ codes "rtems" ∷ codes "1" ∷ [] → ⊥

-- Behind so many of the lines there is none, or one that isn't the header.
abbrev pub NoHeaderFollows : List (List ℕ) → ℕ → Type 0
NoHeaderFollows lines front = (front ≡ length lines) ⊎ ((text : List ℕ) × (slice_get lines front ≡ Some text) × IsNoHeader text)

-- More lines must follow: a cluster, the ticks, or the `end` of a body.
abbrev pub IsOpen : Phase → Type 0
IsOpen Headed = Unit {0}
IsOpen Clustered = Unit {0}
IsOpen InBody = Unit {0}
IsOpen _ = ⊥

-- ---- the reasons

-- `TooLarge`: the text has more than 1,048,576 bytes. The fault is that of no line, and has the number 0.
pub record TextIsTooLarge (bytes : List ℕ) (line : ℕ) : Type 0 where
  pub size : MOST_BYTES < length bytes
  pub whole : line ≡ 0

-- `NotAscii`: the line has a byte that isn't allowed.
pub record ByteIsUnallowed (bytes : List ℕ) (line : ℕ) : Type 0 where
  pub draft : Draft
  pub text : List ℕ
  pub reached : IsReached bytes line draft text
  pub unallowed : is_plain text ≡ false

-- `Header`: the line is the first that isn't skipped, and isn't the words `rtems 1`. Where all lines are skipped, it is the one that would follow them.
pub record HeaderIsMissing (bytes : List ℕ) (line : ℕ) : Type 0 where
  pub size : length bytes ≤ MOST_BYTES
  pub front : ℕ
  pub number : line ≡ front + 1
  pub passed : AllByRecursion IsPassed (take front (lines_of bytes))
  pub missing : NoHeaderFollows (lines_of bytes) front

-- `Word`: no line with this first word may come there, the number of words is wrong, or the first word that isn't right stands where no number may, and isn't spelled as what may.
abbrev pub WordIsWrong : List ℕ → ℕ → Type 0
WordIsWrong bytes line = HasStrangeFirst bytes line ⊎ (HasWrongCount bytes line ⊎ HasUnfitWord bytes line Word)

-- `Number`: the first word that isn't right stands where a number may, and is neither decimal digits without a leading zero, nor `0x` and eight digits, nor what may stand there in place of a number.
abbrev pub NumberIsMissing : List ℕ → ℕ → Type 0
NumberIsMissing bytes line = HasUnfitWord bytes line Number

-- `Range`: the first word that isn't right is a number that isn't in the range of its slot, or that leads a goto to no earlier line, or to a goto.
abbrev pub NumberIsOutOfRange : List ℕ → ℕ → Type 0
NumberIsOutOfRange bytes line = HasUnfitWord bytes line Range

-- `UnknownName`: the first word that isn't right is what a body may be called, and is the name of none that the line may name.
abbrev pub NameIsUnknown : List ℕ → ℕ → Type 0
NameIsUnknown bytes line = HasUnfitWord bytes line UnknownName

-- `Repeated`: a body begins with the name of an earlier one.
abbrev pub NameIsRepeated : List ℕ → ℕ → Type 0
NameIsRepeated bytes line = HasUnfitWord bytes line Repeated

-- `TooMany`: each word of the line is right, and there may be no such line more.
pub record LineIsOneTooMany (bytes : List ℕ) (line : ℕ) : Type 0 where
  pub draft : Draft
  pub kind : LineKind
  pub words : List (List ℕ)
  pub of_kind : IsOfKind bytes line draft kind words
  pub fit : AreFit draft (slots_of kind) words
  pub no_room : HasNoRoom draft kind words

-- `MissingEnd`: no line is wrong, and the text ends behind the header and before its ticks, or in a body. The line is the one that would follow the last.
pub record EndIsMissing (bytes : List ℕ) (line : ℕ) : Type 0 where
  pub size : length bytes ≤ MOST_BYTES
  pub number : line ≡ length (lines_of bytes) + 1
  pub draft : Draft
  pub lead : Lead start (lines_of bytes) draft
  pub unfinished : IsOpen draft.phase

-- ---- the laws

-- The fault of bytes has this reason and is at this line exactly where this holds of them and the line.
abbrev pub ComesExactlyWhere : ScenarioWhy → (List ℕ → ℕ → Type 0) → Type 0
ComesExactlyWhere why Holds = (bytes : List ℕ) (line : ℕ) → (scenario_fault bytes ≡ Some (record { line = line; why = why })) ↔ Holds bytes line
