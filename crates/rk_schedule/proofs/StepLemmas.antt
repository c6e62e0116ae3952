-- What a line comes to, behind the lines of a history that doesn't end.
use Rattle.std.proofs.Common.{◌≡◌, ◌≢◌, ℕ, ◌<◌, ◌≤◌, ◌⊎◌, inl, inr, List, [], ◌∷◌, ◌++◌, Bool, true, false, cond, eqb, ltb, not, ◌&&◌, Option, Some, None, length, drop, arith, refl, sym, ap, ◌∙◌, subst, append_assoc}
use Rattle.std.specs.Prelude.{◌==◌}
use Rattle.std.specs.List.{starts_with}
use Rattle.std.specs.Str.{bytes_eq}
use Rattle.std.proofs.lemmas.Bool.{false≢true}
use Rattle.std.proofs.lemmas.Bool.Decides.{nat_tests, Decides-eqb}
use Rattle.std.proofs.lemmas.Slice.Eq.{bytes_eq-Decides, starts_is}
use Rattle.rk_model.specs.declared.scenario.Scenario.{Scenario}
use Rattle.rk_model.specs.declared.entry.Entry.{Entry}
use Rattle.rk_model.specs.State.{Plain}
use Rattle.rk_model.specs.Steps.{Act, act}
use Rattle.rk_model.specs.Histories.{opening, after, is_end, Legal}
use Rattle.rk_model.specs.Text.Scenarios.{cpus_in}
use Rattle.rk_model.specs.Text.Schedules.{lines_of_entry, tick_line, history_lines, call_text, directive_line}
use Rattle.rk_model.specs.declared.schedule.ScheduleWhy.{ScheduleWhy}
use Rattle.rk_model.specs.declared.schedule.ScheduleWhy.TheVariants.{Form, Status, Order}
use Rattle.rk_model.specs.Text.ScheduleForms.{has_form}
use Rattle.rk_model.specs.Text.ScheduleFaults.{AreGood, DiffersInAnswer, IsJudged}
use Rattle.rk_schedule.specs.Reading.{named_seat, misplaced, mistaken, Step, Takes, Closes, Stops, called, ticked, closed, step_by, step_of}
use Rattle.rk_model.specs.declared.entry.What.TheVariants.{Tick, End}
use Rattle.rk_model.specs.Steps.{clock_entry}
use Rattle.rk_model.specs.Scheduling.Running.{least}
use Rattle.rk_schedule.proofs.NamedLemmas.{NameNone, IsCall, ending, none_named, processor_calls, clock_acts}
use Rattle.rk_schedule.proofs.TogetherLemmas.{Keeps, GoOn}
use Rattle.rk_schedule.proofs.BehindLemmas.{Next, Ends, Differs, differs_here, finished_behind, allowed_behind}

pub none_some : {A : Type 0} (o : Option A) (x : A) → o ≡ None → o ≡ Some x → ⊥
none_some o x none some = let differ = sym none ∙ some in cc (differ)

pub same_some : {A : Type 0} (o : Option A) (x y : A) → o ≡ Some x → o ≡ Some y → x ≡ y
same_some o x y one other = let both = sym one ∙ other in cc (both)

pub same_bytes : (a b : List ℕ) → bytes_eq a b ≡ true → a ≡ b
same_bytes a b e = (bytes_eq-Decides a b).0 e

pub other_bytes : (a b : List ℕ) → bytes_eq a b ≡ false → a ≡ b → ⊥
other_bytes a b e same = false≢true (sym e ∙ (bytes_eq-Decides a b).1 same)

-- ---- what is wrong with a line

pub misplaced_judged : (s : Scenario) (before : List (List ℕ)) (line : List ℕ) → (DiffersInAnswer s before line → ⊥) → IsJudged s before line (misplaced (cpus_in s.clusters) line)
misplaced_judged s before line apart = by (has_form (cpus_in s.clusters) line) refl where
  by : (b : Bool) → has_form (cpus_in s.clusters) line ≡ b → IsJudged s before line (cond b Order Form)
  by true e = (e, apart)
  by false e = e

mistaken_by : (s : Scenario) (before : List (List ℕ)) (x : Entry) (line : List ℕ) (b d : Bool) → has_form (cpus_in s.clusters) line ≡ b → (d ≡ true → DiffersInAnswer s before line) → (d ≡ false → DiffersInAnswer s before line → ⊥)
    → IsJudged s before line (cond (not b) Form (cond d Status Order))
mistaken_by s before x line true true e differs apart = (e, differs refl)
mistaken_by s before x line true false e differs apart = (e, apart refl)
mistaken_by s before x line false d e differs apart = e

starts : (line call : List ℕ) → starts_with ◌==◌ line (call ++ 32 ∷ []) ≡ true → line ≡ call ++ 32 ∷ drop (length (call ++ 32 ∷ [])) line
starts line call e = ((starts_is Decides-eqb line (call ++ 32 ∷ []) (starts_with ◌==◌ line (call ++ 32 ∷ [])) refl).0 e) ∙ append_assoc call (32 ∷ []) (drop (length (call ++ 32 ∷ [])) line)

starts_not : (line call answer : List ℕ) → starts_with ◌==◌ line (call ++ 32 ∷ []) ≡ false → line ≡ call ++ 32 ∷ answer → ⊥
starts_not line call answer e is =
    false≢true (sym e ∙ (starts_is Decides-eqb line (call ++ 32 ∷ []) (starts_with ◌==◌ line (call ++ 32 ∷ [])) refl).1 answer (is ∙ sym (append_assoc call (32 ∷ []) answer)))

mistaken_judged : (s : Scenario) (P : Plain → Type 0) → Keeps s P → (xs : List Entry) (line : List ℕ) (q : ℕ) (a : Act) → P (after s xs) → P (opening s) → Legal s xs → GoOn xs → length xs < s.limit
    → q < 8 → named_seat line ≡ Some q → act (after s xs) q ≡ Some a → IsJudged s (history_lines s xs) line (mistaken s (cpus_in s.clusters) a.entry line)
mistaken_judged s P keeps xs line q a here holds legal goes few processor named acts =
    mistaken_by s (history_lines s xs) a.entry line (has_form (cpus_in s.clusters) line) (starts_with ◌==◌ line (call_text s a.entry ++ 32 ∷ [])) refl
    (λ e. record { history = xs; cpu = q; next = a; answer = drop (length (call_text s a.entry ++ 32 ∷ [])) line; legal = legal; few = few; before_is = refl; processor = processor; acts = acts; line_is = starts line (call_text s a.entry) e })
    (λ e d.
    let h = differs_here s P keeps xs line here holds legal goes d in
    let seat : h.cpu ≡ q = same_some (named_seat line) h.cpu q h.named named in
    let one : h.what ≡ a = same_some (act (after s xs) q) h.what a (ap (act (after s xs)) (sym seat) ∙ h.acts) acts in
    starts_not line (call_text s a.entry) h.answer e (h.line_is ∙ ap (λ (b : Act). call_text s b.entry ++ 32 ∷ h.answer) one))

-- ---- good lines go on

-- the run may end here, and the line names no seat
pub record MayEnd (k : Plain) (line : List ℕ) : Type 0 where
  pub what : Act
  pub acts : act k 8 ≡ Some what
  pub end : is_end what.entry.what ≡ true
  pub named : named_seat line ≡ None

first_none : (r more : List (List ℕ)) (line : List ℕ) → NameNone r → r ≡ line ∷ more → named_seat line ≡ None
first_none [] more line none e = absurd cc
first_none (first ∷ r) more line none e = let same : first ≡ line = cc (e) in ap named_seat (sym same) ∙ none.0

-- what good lines go on with: the line of an entry, or that of an ending
pub good_next : (s : Scenario) (P : Plain → Type 0) → Keeps s P → (xs : List Entry) (line : List ℕ) → P (opening s) → Legal s xs → GoOn xs → AreGood s (history_lines s xs ++ line ∷ [])
    → (length xs < s.limit) × (Next (after s xs) line ⊎ MayEnd (after s xs) line)
good_next s P keeps xs line holds legal goes (inl (zs, allowed, (more, e))) =
    let n = allowed_behind s P keeps xs zs line more holds legal goes allowed (e ∙ append_assoc (history_lines s xs) (line ∷ []) more) in (n.0, inl n.1)
good_next s P keeps xs line holds legal goes (inr (zs, fin, (more, e))) = by (finished_behind s P keeps xs zs (line ∷ more) holds legal goes fin (e ∙ append_assoc (history_lines s xs) (line ∷ []) more)) where
  by : (length xs < s.limit) × ((Ends (after s xs) xs zs × (ending s zs ≡ line ∷ more)) ⊎ ((l : List ℕ) × (others : List (List ℕ)) × (line ∷ more ≡ l ∷ others) × Next (after s xs) l))
      → (length xs < s.limit) × (Next (after s xs) line ⊎ MayEnd (after s xs) line)
  by (few, inl end) = (few, inr (record { what = end.0.what; acts = end.0.acts; end = end.0.end; named = first_none (ending s zs) more line (none_named s zs) end.1 }))
  by (few, inr (l, others, same, next)) = let one : l ≡ line = cc (same) in (few, inl (subst (Next (after s xs)) one next))

-- what a seat that a line names does, where good lines go on with it
pub record At (k : Plain) (q : ℕ) (line : List ℕ) : Type 0 where
  pub what : Act
  pub acts : act k q ≡ Some what
  pub goes : is_end what.entry.what ≡ false
  pub lines : lines_of_entry k what.entry what.entry.what ≡ line ∷ []

at_seat : (k : Plain) (line : List ℕ) (q : ℕ) → named_seat line ≡ Some q → Next k line → At k q line
at_seat k line q named next =
    let seat : next.seat ≡ q = same_some (named_seat line) next.seat q next.named named in
    record { what = next.what; acts = ap (act k) (sym seat) ∙ next.acts; goes = next.goes; lines = next.lines }

-- ---- what a step is

-- a line was taken as that of what a seat does
pub record IsTaken (k : Plain) (line : List ℕ) (a : Act) : Type 0 where
  pub seat : ℕ
  pub acts : act k seat ≡ Some a
  pub goes : is_end a.entry.what ≡ false
  pub lines : lines_of_entry k a.entry a.entry.what ≡ line ∷ []

-- the run ends in front of a line
pub record IsClosed (k : Plain) (line : List ℕ) (a : Act) : Type 0 where
  pub acts : act k 8 ≡ Some a
  pub end : is_end a.entry.what ≡ true
  pub named : named_seat line ≡ None

-- a line is wrong
pub record IsStopped (s : Scenario) (xs : List Entry) (line : List ℕ) (why : ScheduleWhy) : Type 0 where
  pub bad : AreGood s (history_lines s xs ++ line ∷ []) → ⊥
  pub judged : IsJudged s (history_lines s xs) line why

abbrev pub StepIs : Scenario → List Entry → List ℕ → Step → Type 0
StepIs s xs line (Takes a) = (length xs < s.limit) × IsTaken (after s xs) line a
StepIs s xs line (Closes a) = (length xs < s.limit) × IsClosed (after s xs) line a
StepIs s xs line (Stops why) = IsStopped s xs line why

-- the facts on which a step rests
pub record Ground (s : Scenario) (P : Plain → Type 0) (xs : List Entry) : Type 0 where
  pub keeps : Keeps s P
  pub here : P (after s xs)
  pub begun : P (opening s)
  pub legal : Legal s xs
  pub goes : GoOn xs

-- a line is misplaced where it neither goes on nor differs only in its answer
stopped : (s : Scenario) (P : Plain → Type 0) (xs : List Entry) (line : List ℕ) → Ground s P xs
    → (length xs < s.limit → Next (after s xs) line → ⊥) → (length xs < s.limit → MayEnd (after s xs) line → ⊥) → (Differs s xs line → ⊥) → StepIs s xs line (Stops (misplaced (cpus_in s.clusters) line))
stopped s P xs line g no_next no_end no_answer = record {
  bad = λ good. by (good_next s P g.keeps xs line g.begun g.legal g.goes good);
  judged = misplaced_judged s (history_lines s xs) line (λ d. no_answer (differs_here s P g.keeps xs line g.here g.begun g.legal g.goes d));
} where
  by : (length xs < s.limit) × (Next (after s xs) line ⊎ MayEnd (after s xs) line) → ⊥
  by (few, inl next) = no_next few next
  by (few, inr end) = no_end few end

-- a line that names no seat
closed_is : (s : Scenario) (P : Plain → Type 0) (xs : List Entry) (line : List ℕ) → Ground s P xs → length xs < s.limit → named_seat line ≡ None → (o : Option Act) → act (after s xs) 8 ≡ o → StepIs s xs line (closed (cpus_in s.clusters) line o)
closed_is s P xs line g few named None e =
    stopped s P xs line g (λ _ next. none_some (named_seat line) next.seat named next.named) (λ _ end. none_some (act (after s xs) 8) end.what e end.acts) (λ d. none_some (named_seat line) d.cpu named d.named)
closed_is s P xs line g few named (Some a) e = by (is_end a.entry.what) refl where
  by : (end : Bool) → is_end a.entry.what ≡ end → StepIs s xs line (cond end (Closes a) (Stops (misplaced (cpus_in s.clusters) line)))
  by true ended = (few, record { acts = e; end = ended; named = named })
  by false going =
      stopped s P xs line g (λ _ next. none_some (named_seat line) next.seat named next.named)
      (λ _ end. let one : end.what ≡ a = same_some (act (after s xs) 8) end.what a end.acts e in false≢true (sym going ∙ ap (λ (b : Act). is_end b.entry.what) (sym one) ∙ end.end))
      (λ d. none_some (named_seat line) d.cpu named d.named)

-- a line that names the clock
ticked_is : (s : Scenario) (P : Plain → Type 0) (xs : List Entry) (line : List ℕ) → Ground s P xs → length xs < s.limit → named_seat line ≡ Some 8 → (o : Option Act) → act (after s xs) 8 ≡ o
    → StepIs s xs line (ticked (cpus_in s.clusters) line (tick_line (after s xs)) o)
ticked_is s P xs line g few named None e =
    stopped s P xs line g (λ _ next. let at = at_seat (after s xs) line 8 named next in none_some (act (after s xs) 8) at.what e at.acts) (λ _ end. none_some (act (after s xs) 8) end.what e end.acts)
    (λ d. let same : d.cpu ≡ 8 = same_some (named_seat line) d.cpu 8 d.named named in let differ : ⊥ = omega (arith, same, d.processor) in differ)
ticked_is s P xs line g few named (Some a) e = by (is_end a.entry.what) (bytes_eq line (tick_line (after s xs))) refl refl where
  no_answer : Differs s xs line → ⊥
  no_answer d = let same : d.cpu ≡ 8 = same_some (named_seat line) d.cpu 8 d.named named in let differ : ⊥ = omega (arith, same, d.processor) in differ

  no_end : length xs < s.limit → MayEnd (after s xs) line → ⊥
  no_end _ end = none_some (named_seat line) 8 end.named named

  ticks : is_end a.entry.what ≡ false → lines_of_entry (after s xs) a.entry a.entry.what ≡ tick_line (after s xs) ∷ []
  ticks going = either (clock_acts (after s xs) a e) where
    either : (a.entry ≡ clock_entry Tick) ⊎ ((a.entry ≡ clock_entry End) × (a.next ≡ after s xs) × (least (after s xs) ≡ None)) → lines_of_entry (after s xs) a.entry a.entry.what ≡ tick_line (after s xs) ∷ []
    either (inl tick) = rw tick refl
    either (inr end) = absurd (false≢true (sym going ∙ ap (λ (x : Entry). is_end x.what) end.0))

  by : (end same : Bool) → is_end a.entry.what ≡ end → bytes_eq line (tick_line (after s xs)) ≡ same → StepIs s xs line (cond (not end && same) (Takes a) (Stops (misplaced (cpus_in s.clusters) line)))
  by true same ended is =
      stopped s P xs line g (λ _ next. let at = at_seat (after s xs) line 8 named next in let one : at.what ≡ a = same_some (act (after s xs) 8) at.what a at.acts e in false≢true (sym at.goes ∙ ap (λ (b : Act). is_end b.entry.what) one ∙ ended)) no_end no_answer
  by false true going is = (few, record { seat = 8; acts = e; goes = going; lines = ticks going ∙ ap (λ (l : List ℕ). l ∷ []) (sym (same_bytes line (tick_line (after s xs)) is)) })
  by false false going is =
      stopped s P xs line g (λ _ next.
      let at = at_seat (after s xs) line 8 named next in
      let one : at.what ≡ a = same_some (act (after s xs) 8) at.what a at.acts e in
      let lines : line ∷ [] ≡ tick_line (after s xs) ∷ [] = sym at.lines ∙ ap (λ (b : Act). lines_of_entry (after s xs) b.entry b.entry.what) one ∙ ticks going in
      let same : line ≡ tick_line (after s xs) = cc (lines) in
      other_bytes line (tick_line (after s xs)) is same) no_end no_answer

-- a line that names another seat
called_is : (s : Scenario) (P : Plain → Type 0) (xs : List Entry) (line : List ℕ) (q : ℕ) → Ground s P xs → length xs < s.limit → q ≢ 8 → named_seat line ≡ Some q → (o : Option Act) → act (after s xs) q ≡ o
    → StepIs s xs line (called s (cpus_in s.clusters) line o)
called_is s P xs line q g few other named None e =
    stopped s P xs line g (λ _ next. let at = at_seat (after s xs) line q named next in none_some (act (after s xs) q) at.what e at.acts) (λ _ end. none_some (named_seat line) q end.named named)
    (λ d. let same : d.cpu ≡ q = same_some (named_seat line) d.cpu q d.named named in none_some (act (after s xs) q) d.what e (ap (act (after s xs)) (sym same) ∙ d.acts))
called_is s P xs line q g few other named (Some a) e = by (bytes_eq line (directive_line s a.entry)) refl where
  call : IsCall (after s xs) q a
  call = processor_calls (after s xs) q a (g.keeps.few (after s xs) g.here) other e

  lines : lines_of_entry (after s xs) a.entry a.entry.what ≡ directive_line s a.entry ∷ []
  lines = call.lines ∙ ap (λ (t : Scenario). directive_line t a.entry ∷ []) (g.keeps.scenario (after s xs) g.here)

  by : (same : Bool) → bytes_eq line (directive_line s a.entry) ≡ same → StepIs s xs line (cond same (Takes a) (Stops (mistaken s (cpus_in s.clusters) a.entry line)))
  by true is = (few, record { seat = q; acts = e; goes = call.goes_on; lines = lines ∙ ap (λ (l : List ℕ). l ∷ []) (sym (same_bytes line (directive_line s a.entry) is)) })
  by false is = record {
    bad = λ good. wrong (good_next s P g.keeps xs line g.begun g.legal g.goes good);
    judged = mistaken_judged s P g.keeps xs line q a g.here g.begun g.legal g.goes few call.processor named e;
  } where
    wrong : (length xs < s.limit) × (Next (after s xs) line ⊎ MayEnd (after s xs) line) → ⊥
    wrong (_, inl next) =
        let at = at_seat (after s xs) line q named next in
        let one : at.what ≡ a = same_some (act (after s xs) q) at.what a at.acts e in
        let both : line ∷ [] ≡ directive_line s a.entry ∷ [] = sym at.lines ∙ ap (λ (b : Act). lines_of_entry (after s xs) b.entry b.entry.what) one ∙ lines in
        let same : line ≡ directive_line s a.entry = cc (both) in
        other_bytes line (directive_line s a.entry) is same
    wrong (_, inr end) = none_some (named_seat line) q end.named named

step_by_is : (s : Scenario) (P : Plain → Type 0) (xs : List Entry) (line : List ℕ) → Ground s P xs → length xs < s.limit → (o : Option ℕ) → named_seat line ≡ o → StepIs s xs line (step_by s (cpus_in s.clusters) (after s xs) line o)
unfolding step_by
step_by_is s P xs line g few None named = closed_is s P xs line g few named (act (after s xs) 8) refl
step_by_is s P xs line g few (Some q) named = by (eqb q 8) refl where
  by : (clock : Bool) → eqb q 8 ≡ clock → StepIs s xs line (cond clock (ticked (cpus_in s.clusters) line (tick_line (after s xs)) (act (after s xs) 8)) (called s (cpus_in s.clusters) line (act (after s xs) q)))
  by true e = let same : q ≡ 8 = grind (arith, nat_tests, e) in ticked_is s P xs line g few (named ∙ ap (λ (n : ℕ). Some n) same) (act (after s xs) 8) refl
  by false e = let other : q ≢ 8 = grind (arith, nat_tests, e) in called_is s P xs line q g few other named (act (after s xs) q) refl

-- what a line comes to
pub step_is : (s : Scenario) (P : Plain → Type 0) (xs : List Entry) (line : List ℕ) → Ground s P xs → StepIs s xs line (step_of s (cpus_in s.clusters) (after s xs) (length xs) line)
step_is s P xs line g = by (ltb (length xs) s.limit) refl where
  by : (few : Bool) → ltb (length xs) s.limit ≡ few → StepIs s xs line (cond few (step_by s (cpus_in s.clusters) (after s xs) line (named_seat line)) (Stops (misplaced (cpus_in s.clusters) line)))
  by true e = let few : length xs < s.limit = grind (arith, nat_tests, e) in step_by_is s P xs line g few (named_seat line) refl
  by false e =
      let full : s.limit ≤ length xs = grind (arith, nat_tests, e) in
      stopped s P xs line g (λ few _. let differ : ⊥ = omega (arith, few, full) in differ) (λ few _. let differ : ⊥ = omega (arith, few, full) in differ) (λ d. let differ : ⊥ = omega (arith, d.few, full) in differ)
