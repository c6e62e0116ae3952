-- The verdict on a text is the scenario that it tells, and bytes that tell none have a fault.
use Rattle.std.proofs.Common.{◌≡◌, ℕ, ◌+◌, Bool, true, false, cond, not, ◌⊎◌, inl, inr, List, [], ◌∷◌, ◌++◌, length, map, Option, Some, None, Result, Ok, Err, codes, refl, sym, ap, subst, ◌∙◌, append_assoc, arith, ◌≤◌, ◌<◌}
use Rattle.std.specs.Prelude.{nat_lt, filter, IfOk, IfErr}
use Rattle.std.specs.List.{AllByRecursion}
use Rattle.std.proofs.lemmas.Bool.{cases_Bool, le-ltb, ltb-false}
use Rattle.rk_model.specs.declared.scenario.Body.{Body}
use Rattle.rk_model.specs.declared.scenario.Init.{Init}
use Rattle.rk_model.specs.declared.scenario.Scenario.{Scenario}
use Rattle.rk_model.specs.declared.scenario.ScenarioWhy.{ScenarioWhy}
use Rattle.rk_model.specs.declared.scenario.ScenarioWhy.TheVariants.{TooLarge, NotAscii}
use Rattle.rk_model.specs.Text.Words.{lines_of, words_of, is_plain, is_skipped}
use Rattle.rk_model.specs.Text.Scenarios.{AreClusters, AreBodies, AreInits, IsCluster, cpus_in, IsTicks, IsLimit, Describes, ScenarioText, IsScenario}
use Rattle.rk_model.specs.Text.Reading.{Phase, Start, Headed, Clustered, Timed, Limited, InBody, InInits, Draft, start, after_statement, after_words, after_line, Fault, Verdict, Reads, Faults, at_end, goes_on, verdict_from, verdict, fault_in}
use Rattle.rk_scenario.specs.declared.errors.ScenarioError.{ScenarioError}
use Rattle.rk_scenario.specs.declared.errors.ScenarioError.TheVariants.{Refused, Memory}
use Rattle.rk_scenario.specs.ReadingAnswers.{Answers, IsRefusal, Gives}
use Rattle.rk_scenario.specs.TextLaws.{ReadsTexts, ReadsEachText, OneScenario, FaultlessAreTexts, AreLinesOf}
use Rattle.rk_scenario.proofs.LeftLinesLemmas.{SetsLimit, Completes, ends}
use Rattle.rk_scenario.proofs.ReaderLemmas.{Keeps, step_sound, end_sound_at}
use Rattle.rk_scenario.proofs.CompletenessLemmas.{step_taken, end_taken}

-- ---- the words of the lines that aren't skipped

-- what follows a step that was taken
abbrev read_on : Result Draft ScenarioWhy → (Draft → Option Scenario) → Option Scenario
read_on (Ok d) rest = rest d
read_on (Err why) rest = None

-- what the machine reads from these words of lines, none of which is skipped
abbrev read_from : Draft → List (List (List ℕ)) → Option Scenario
read_from d [] = ends d.phase d.scenario
read_from d (words ∷ statements) = read_on (after_statement d.phase d words) (λ next. read_from next statements)

read_some : (r : Result Draft ScenarioWhy) (rest : Draft → Option Scenario) (s : Scenario) → read_on r rest ≡ Some s → (next : Draft) × (r ≡ Ok next) × (rest next ≡ Some s)
read_some (Ok next) rest s e = (next, refl, e)
read_some (Err why) rest s e = absurd cc

read_sound : (statements : List (List (List ℕ))) (d : Draft) (s : Scenario) → read_from d statements ≡ Some s → Keeps d.phase d.scenario d.body → Completes d.phase d.scenario d.body statements s
read_sound [] d s e keeps = end_sound_at d.phase d.scenario d.body s e keeps
read_sound (words ∷ statements) d s e keeps =
    let r = read_some (after_statement d.phase d words) (λ next. read_from next statements) s e in
    let step = step_sound d.phase d.scenario d.body words r.0 r.1 keeps in
    step.back statements s (read_sound statements r.0 s r.2 step.keeps)

read_complete : (statements : List (List (List ℕ))) (d : Draft) (s : Scenario) → Completes d.phase d.scenario d.body statements s → read_from d statements ≡ Some s
read_complete [] d s left = end_taken d.phase d.scenario d.body s left
read_complete (words ∷ statements) d s left =
    let t = step_taken d.phase d.scenario d.body words statements s left in
    ap (λ (r : Result Draft ScenarioWhy). read_on r (λ next. read_from next statements)) t.taken ∙ read_complete statements t.next s t.left

-- ---- the lines of a text

abbrev statements_of : List (List ℕ) → List (List (List ℕ))
statements_of lines = filter (λ words. not (is_skipped words)) (map words_of lines)

abbrev ArePlain : List (List ℕ) → Type 0
ArePlain lines = AllByRecursion (λ line. is_plain line ≡ true) lines

at_end_reads : (p : Phase) (b s : Scenario) (n : ℕ) → at_end p b n ≡ Reads s → ends p b ≡ Some s
at_end_reads Start b s n e = absurd cc
at_end_reads Headed b s n e = absurd cc
at_end_reads Clustered b s n e = absurd cc
at_end_reads Timed b s n e = cc
at_end_reads Limited b s n e = cc
at_end_reads InBody b s n e = absurd cc
at_end_reads InInits b s n e = cc

ends_reads : (p : Phase) (b s : Scenario) (n : ℕ) → ends p b ≡ Some s → at_end p b n ≡ Reads s
ends_reads Start b s n e = absurd cc
ends_reads Headed b s n e = absurd cc
ends_reads Clustered b s n e = absurd cc
ends_reads Timed b s n e = cc
ends_reads Limited b s n e = cc
ends_reads InBody b s n e = absurd cc
ends_reads InInits b s n e = cc

goes_on_reads : (r : Result Draft ScenarioWhy) (n : ℕ) (rest : Draft → Verdict) (s : Scenario) → goes_on r n rest ≡ Reads s → (next : Draft) × (r ≡ Ok next) × (rest next ≡ Reads s)
goes_on_reads (Ok next) n rest s e = (next, refl, e)
goes_on_reads (Err why) n rest s e = absurd cc

-- a line is skipped, or its words are a step
pub record IsLine (d : Draft) (line : List ℕ) (next : Draft) : Type 0 where
  pub plain : is_plain line ≡ true
  pub step : ((is_skipped (words_of line) ≡ true) × (d ≡ next)) ⊎ ((is_skipped (words_of line) ≡ false) × (after_statement d.phase d (words_of line) ≡ Ok next))

words_step : (skipped : Bool) (d next : Draft) (next_step : Result Draft ScenarioWhy) → cond skipped (Ok d) next_step ≡ Ok next → ((skipped ≡ true) × (d ≡ next)) ⊎ ((skipped ≡ false) × (next_step ≡ Ok next))
words_step true d next next_step e = inl (refl, cc)
words_step false d next next_step e = inr (refl, e)

line_step : (plain : Bool) (words : Result Draft ScenarioWhy) (next : Draft) → cond plain words (Err NotAscii) ≡ Ok next → (plain ≡ true) × (words ≡ Ok next)
line_step true words next e = (refl, e)
line_step false words next e = absurd cc

pub line_is : (d : Draft) (line : List ℕ) (next : Draft) → after_line d line ≡ Ok next → IsLine d line next
unfolding after_line after_words
line_is d line next e =
    let l = line_step (is_plain line) (after_words d (words_of line)) next e in
    record { plain = l.0; step = words_step (is_skipped (words_of line)) d next (after_statement d.phase d (words_of line)) l.1 }

skipped_statement : (line : List ℕ) (lines : List (List ℕ)) → is_skipped (words_of line) ≡ true → statements_of (line ∷ lines) ≡ statements_of lines
skipped_statement line lines e = rw e refl

kept_statement : (line : List ℕ) (lines : List (List ℕ)) → is_skipped (words_of line) ≡ false → statements_of (line ∷ lines) ≡ words_of line ∷ statements_of lines
kept_statement line lines e = rw e refl

-- lines that are read are plain, and so are the words of those that aren't skipped
lines_read : (lines : List (List ℕ)) (d : Draft) (n : ℕ) (s : Scenario) → verdict_from d n lines ≡ Reads s → ArePlain lines × (read_from d (statements_of lines) ≡ Some s)
lines_read [] d n s e = (tt, at_end_reads d.phase d.scenario s n e)
lines_read (line ∷ lines) d n s e =
    let g = goes_on_reads (after_line d line) n (λ next. verdict_from next (n + 1) lines) s e in
    let l = line_is d line g.0 g.1 in
    let rest = lines_read lines g.0 (n + 1) s g.2 in (
      (l.plain, rest.0),
      elim l.step [
        | inl t ↦ ap (λ (statements : List (List (List ℕ))). read_from d statements) (skipped_statement line lines t.0) ∙ ap (λ (x : Draft). read_from x (statements_of lines)) t.1 ∙ rest.1
        | inr t ↦ ap (λ (statements : List (List (List ℕ))). read_from d statements) (kept_statement line lines t.0) ∙ ap (λ (r : Result Draft ScenarioWhy). read_on r (λ next. read_from next (statements_of lines))) t.1 ∙ rest.1
      ],
    )

-- a skipped line of allowed bytes changes nothing
pub skipped_line : (d : Draft) (line : List ℕ) → is_plain line ≡ true → is_skipped (words_of line) ≡ true → after_line d line ≡ Ok d
unfolding after_line after_words
skipped_line d line plain skipped = rw (plain, skipped) refl

-- a line of allowed bytes that isn't skipped is a step
pub kept_line : (d : Draft) (line : List ℕ) → is_plain line ≡ true → is_skipped (words_of line) ≡ false → after_line d line ≡ after_statement d.phase d (words_of line)
unfolding after_line after_words
kept_line d line plain kept = rw (plain, kept) refl

-- plain lines are read where the words of those that aren't skipped are
read_lines_of : (lines : List (List ℕ)) (d : Draft) (n : ℕ) (s : Scenario) → ArePlain lines → read_from d (statements_of lines) ≡ Some s → verdict_from d n lines ≡ Reads s
read_lines_of [] d n s plain e = ends_reads d.phase d.scenario s n e
read_lines_of (line ∷ lines) d n s plain e =
    elim (cases_Bool (is_skipped (words_of line))) [
      | inl t ↦
          let rest : read_from d (statements_of lines) ≡ Some s = ap (λ (statements : List (List (List ℕ))). read_from d statements) (sym (skipped_statement line lines t)) ∙ e in
          ap (λ (r : Result Draft ScenarioWhy). goes_on r n (λ next. verdict_from next (n + 1) lines)) (skipped_line d line plain.0 t) ∙ read_lines_of lines d (n + 1) s plain.1 rest
      | inr t ↦
          let here : read_from d (words_of line ∷ statements_of lines) ≡ Some s = ap (λ (statements : List (List (List ℕ))). read_from d statements) (sym (kept_statement line lines t)) ∙ e in
          let r = read_some (after_statement d.phase d (words_of line)) (λ next. read_from next (statements_of lines)) s here in
          ap (λ (x : Result Draft ScenarioWhy). goes_on x n (λ next. verdict_from next (n + 1) lines)) (kept_line d line plain.0 t ∙ r.1) ∙ read_lines_of lines r.0 (n + 1) s plain.1 r.2
    ]

-- ---- what is statements

pub start_keeps : Keeps start.phase start.scenario start.body
start_keeps = record { alone = refl; clusters = omega arith; cpus = omega arith; bodies = omega arith; distinct = tt; fresh = tt; lines = omega arith; inits = omega arith }

limit_of_sets : (limits : List (List (List ℕ))) (limit : ℕ) → SetsLimit 200000 limits limit → IsLimit limits limit
limit_of_sets [] limit sets = sets
limit_of_sets (words ∷ []) limit sets = sets
limit_of_sets (words ∷ more ∷ statements) limit sets = absurd sets

sets_of_limit : (limits : List (List (List ℕ))) (limit : ℕ) → IsLimit limits limit → SetsLimit 200000 limits limit
sets_of_limit [] limit is = is
sets_of_limit (words ∷ []) limit is = is
sets_of_limit (words ∷ more ∷ statements) limit is = absurd is

-- the parts of what is statements, each behind the one before
parts_joined : (clusters : List (List (List ℕ))) (ticks : List (List ℕ)) (limits bodies inits : List (List (List ℕ)))
    → clusters ++ ticks ∷ limits ++ bodies ++ inits ≡ clusters ++ ticks ∷ (limits ++ (bodies ++ inits))
parts_joined clusters ticks limits bodies inits = append_assoc (clusters ++ ticks ∷ limits) bodies inits ∙ append_assoc clusters (ticks ∷ limits) (bodies ++ inits)

-- what completes the draft before the first line tells the scenario
describes_of : (statements : List (List (List ℕ))) (s : Scenario) → Completes start.phase start.scenario start.body statements s → Describes statements s
describes_of statements s h =
    let first = h.after in
    let clusters = first.after in
    let limit = clusters.after in
    let bodies = limit.after in
    let inits = bodies.after in
    let header : List (List ℕ) = codes "rtems" ∷ codes "1" ∷ [] in
    let counts : List ℕ = first.cpus ∷ clusters.more in
    let lines : List (List (List ℕ)) = first.cluster ∷ clusters.clusters in
    let clusters-is : s.clusters ≡ counts = ap (λ (x : Scenario). x.clusters) inits.whole in
    let bodies-are : AreBodies (length s.clusters) [] bodies.bodies bodies.more = subst (λ (ms : List ℕ). AreBodies (length ms) [] bodies.bodies bodies.more) (sym clusters-is) bodies.bodies_are in
    let horizon-is : s.horizon ≡ clusters.horizon = ap (λ (x : Scenario). x.horizon) inits.whole in
    let limit-is : s.limit ≡ limit.limit = ap (λ (x : Scenario). x.limit) inits.whole in
    let bodies-is : s.bodies ≡ bodies.more = ap (λ (x : Scenario). x.bodies) inits.whole in
    let inits-is : s.inits ≡ inits.more = ap (λ (x : Scenario). x.inits) inits.whole in
    let nested : statements ≡ header ∷ lines ++ clusters.ticks ∷ (limit.limits ++ (bodies.bodies ++ bodies.inits)) = cc (h.statements_are, first.statements_are, clusters.statements_are, limit.statements_are, bodies.statements_are) in
    let some : 0 < length counts = omega arith in
    record {
      clusters = lines;
      ticks = clusters.ticks;
      limits = limit.limits;
      bodies = bodies.bodies;
      inits = bodies.inits;
      statements_are = nested ∙ sym (parts_joined (header ∷ lines) clusters.ticks limit.limits bodies.bodies bodies.inits);
      clusters_are = subst (λ (ms : List ℕ). AreClusters lines ms) (sym clusters-is) (first.is, clusters.clusters_are);
      some_cluster = subst (λ (ms : List ℕ). 0 < length ms) (sym clusters-is) some;
      few_clusters = subst (λ (ms : List ℕ). length ms ≤ 4) (sym clusters-is) clusters.few;
      few_cpus = subst (λ (ms : List ℕ). cpus_in ms ≤ 8) (sym clusters-is) clusters.few_cpus;
      ticks_are = subst (λ (n : ℕ). IsTicks clusters.ticks n) (sym horizon-is) clusters.ticks_are;
      limit_is = subst (λ (n : ℕ). IsLimit limit.limits n) (sym limit-is) (limit_of_sets limit.limits limit.limit limit.sets);
      bodies_are = subst (λ (x : List Body). AreBodies (length s.clusters) [] bodies.bodies x) (sym bodies-is) bodies-are;
      few_bodies = bodies.few;
      distinct = bodies.distinct;
      inits_are = subst (λ (x : List Init). AreInits s bodies.inits x) (sym inits-is) inits.lines;
      few_inits = inits.few;
    }

-- the first of some clusters, and the others
record AreParted (clusters : List (List (List ℕ))) (counts : List ℕ) : Type 0 where
  cluster : List (List ℕ)
  lines : List (List (List ℕ))
  cpus : ℕ
  more : List ℕ
  clusters_is : clusters ≡ cluster ∷ lines
  counts_is : counts ≡ cpus ∷ more
  is : IsCluster cluster cpus
  are : AreClusters lines more

parted : (clusters : List (List (List ℕ))) (counts : List ℕ) → AreClusters clusters counts → 0 < length counts → AreParted clusters counts
parted clusters [] are some = absurd (let none : 0 < 0 = some in omega arith)
parted [] (cpus ∷ more) are some = absurd are
parted (cluster ∷ lines) (cpus ∷ more) are some = record { cluster = cluster; lines = lines; cpus = cpus; more = more; clusters_is = refl; counts_is = refl; is = are.0; are = are.1 }

-- what tells the scenario completes the draft before the first line
completes_of : (statements : List (List (List ℕ))) (s : Scenario) → Describes statements s → Completes start.phase start.scenario start.body statements s
completes_of statements s t =
    let c = parted t.clusters s.clusters t.clusters_are t.some_cluster in
    let header : List (List ℕ) = codes "rtems" ∷ codes "1" ∷ [] in
    let rest : List (List (List ℕ)) = t.limits ++ (t.bodies ++ t.inits) in
    let nested : statements ≡ header ∷ c.cluster ∷ (c.lines ++ t.ticks ∷ rest) =
    t.statements_are ∙ parts_joined (header ∷ t.clusters) t.ticks t.limits t.bodies t.inits ∙ ap (λ (x : List (List (List ℕ))). header ∷ x ++ t.ticks ∷ rest) c.clusters_is in
    record {
      rest = c.cluster ∷ (c.lines ++ t.ticks ∷ rest);
      statements_are = nested;
      after = record {
        cluster = c.cluster;
        rest = c.lines ++ t.ticks ∷ rest;
        statements_are = refl;
        cpus = c.cpus;
        is = c.is;
        after = record {
          clusters = c.lines;
          ticks = t.ticks;
          rest = rest;
          statements_are = refl;
          more = c.more;
          clusters_are = c.are;
          few = subst (λ (ms : List ℕ). length ms ≤ 4) c.counts_is t.few_clusters;
          few_cpus = subst (λ (ms : List ℕ). cpus_in ms ≤ 8) c.counts_is t.few_cpus;
          horizon = s.horizon;
          ticks_are = t.ticks_are;
          after = record {
            limits = t.limits;
            rest = t.bodies ++ t.inits;
            statements_are = refl;
            limit = s.limit;
            sets = sets_of_limit t.limits s.limit t.limit_is;
            after = record {
              bodies = t.bodies;
              inits = t.inits;
              statements_are = refl;
              more = s.bodies;
              bodies_are = subst (λ (ms : List ℕ). AreBodies (length ms) [] t.bodies s.bodies) c.counts_is t.bodies_are;
              few = t.few_bodies;
              distinct = t.distinct;
              after = record {
                more = s.inits;
                lines = t.inits_are;
                few = t.few_inits;
                whole = ap (λ (ms : List ℕ). record s { clusters = ms }) c.counts_is;
              };
            };
          };
        };
      };
    }

-- lines that are read are those of a text of the scenario
pub lines_tell : (lines : List (List ℕ)) (s : Scenario) → verdict_from start 1 lines ≡ Reads s → AreLinesOf lines s
lines_tell lines s e =
    let read = lines_read lines start 1 s e in
    record { allowed = read.0; statements = describes_of (statements_of lines) s (read_sound (statements_of lines) start s read.1 start_keeps) }

-- the lines of a text of the scenario are read
pub lines_stated : (lines : List (List ℕ)) (s : Scenario) → AreLinesOf lines s → verdict_from start 1 lines ≡ Reads s
lines_stated lines s are = read_lines_of lines start 1 s are.allowed (read_complete (statements_of lines) start s (completes_of (statements_of lines) s are.statements))

-- ---- the laws

size_reads : (large : Bool) (fault : Fault) (v : Verdict) (s : Scenario) → cond large (Faults fault) v ≡ Reads s → (large ≡ false) × (v ≡ Reads s)
size_reads true fault v s e = absurd cc
size_reads false fault v s e = (refl, e)

pub reads_texts : ReadsTexts
reads_texts bytes s e =
    let size = size_reads (nat_lt 1048576 (length bytes)) (record { line = 0; why = TooLarge }) (verdict_from start 1 (lines_of bytes)) s e in
    let lines = lines_tell (lines_of bytes) s size.1 in
    record { size = ltb-false 1048576 (length bytes) size.0; allowed = lines.allowed; lines = lines.statements }

pub reads_each_text : ReadsEachText
reads_each_text bytes s text =
    let small : nat_lt 1048576 (length bytes) ≡ false = le-ltb 1048576 (length bytes) text.size in
    rw small (lines_stated (lines_of bytes) s (record { allowed = text.allowed; statements = text.lines }))

pub one_scenario : OneScenario
one_scenario bytes s t text other =
    let first = reads_each_text bytes s text in
    let second = reads_each_text bytes t other in
    cc (first, second)

none_reads : (v : Verdict) → fault_in v ≡ None → (s : Scenario) × (v ≡ Reads s)
none_reads (Reads s) e = (s, refl)
none_reads (Faults fault) e = absurd cc

pub faultless_are_texts : FaultlessAreTexts
faultless_are_texts bytes = (
  λ e. let r = none_reads (verdict bytes) e in (r.0, reads_texts bytes r.0 r.1),
  λ text. ap fault_in (reads_each_text bytes text.0 text.1),
)

-- ---- what an answer says

pub text_from_answer : (bytes : List ℕ) (r : Result Scenario ScenarioError) → Answers r (verdict bytes) → IfOk r (ScenarioText bytes)
text_from_answer bytes (Ok s) answer = reads_texts bytes s answer
text_from_answer bytes (Err e) answer = tt

pub only_from_answer : (bytes : List ℕ) (r : Result Scenario ScenarioError) → Answers r (verdict bytes) → (s : Scenario) → ScenarioText bytes s → Gives r s
only_from_answer bytes (Ok t) answer s text = let read = reads_each_text bytes s text in cc
only_from_answer bytes (Err (Refused line why)) answer s text = let read = reads_each_text bytes s text in cc
only_from_answer bytes (Err Memory) answer s text = tt

pub known_from_answer : (bytes : List ℕ) (r : Result Scenario ScenarioError) → Answers r (verdict bytes) → IfOk r IsScenario
known_from_answer bytes (Ok s) answer = record { bytes = bytes; text = reads_texts bytes s answer }
known_from_answer bytes (Err e) answer = tt

pub refusal_from_answer : (bytes : List ℕ) (r : Result Scenario ScenarioError) → Answers r (verdict bytes) → IfErr r (IsRefusal bytes)
refusal_from_answer bytes (Ok s) answer = tt
refusal_from_answer bytes (Err (Refused line why)) answer = ap fault_in answer
refusal_from_answer bytes (Err Memory) answer = tt
