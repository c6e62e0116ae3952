-- The verdict of the machine is the history whose schedule the bytes are, or their fault.
use Rattle.std.proofs.Common.{◌≡◌, ◌≢◌, ℕ, ◌+◌, ◌<◌, ◌≤◌, ◌⊎◌, inl, inr, List, [], ◌∷◌, ◌++◌, Bool, true, false, cond, eqb, Option, Some, None, Ok, Err, length, arith, refl, sym, ap, ◌∙◌, subst, append_assoc, append-nil, length-append}
use Rattle.std.specs.Str.{bytes_eq}
use Rattle.std.proofs.lemmas.Bool.{false≢true}
use Rattle.std.proofs.lemmas.Bool.Decides.{nat_tests}
use Rattle.rk_model.specs.declared.scenario.Scenario.{Scenario}
use Rattle.rk_model.specs.declared.entry.Entry.{Entry}
use Rattle.rk_model.specs.declared.entry.What.TheVariants.{Tick, End}
use Rattle.rk_model.specs.State.{Plain}
use Rattle.rk_model.specs.Scheduling.Running.{least}
use Rattle.rk_model.specs.Steps.{Act, act, clock_entry}
use Rattle.rk_model.specs.Histories.{opening, next_of, after, is_end, ends, IsOf, LegalFrom, Legal}
use Rattle.rk_model.specs.Text.Scenarios.{cpus_in}
use Rattle.rk_model.specs.Text.Schedules.{text_of_lines, lines_of_entry, entry_lines, header_line, history_lines, schedule_lines, schedule_text, period_lines, period_lines_from, final_line}
use Rattle.rk_model.proofs.LegalityLemmas.{quiet_after, own}
use Rattle.rk_model.specs.Text.ScheduleFaults.{IsFinished, IsScheduleOf, AreWhole, AreGood, DiffersInAnswer, IsFaultOf}
use Rattle.rk_model.specs.Text.Words.{whole_lines, loose_end}
use Rattle.rk_schedule.specs.Stored.{stored_in}
use Rattle.rk_schedule.specs.Reading.{misplaced, Step, Takes, Closes, Stops, step_of, Verdict, fault_at, stops_at, loose_fault, ending_fault, verdict_of, ending_lines, verdict_by, entries_from, verdict_on, verdict}
use Rattle.rk_schedule.proofs.NamedLemmas.{ending, clock_acts}
use Rattle.rk_schedule.proofs.SplitLemmas.{again}
use Rattle.rk_schedule.proofs.TogetherLemmas.{Keeps, end_lines}
use Rattle.rk_schedule.proofs.BehindLemmas.{legal_behind, after_behind, lines_behind, go_on_behind, Next, Ends, Behind, behind, history_behind, finished_behind, allowed_behind}
use Rattle.rk_schedule.proofs.StepLemmas.{none_some, same_some, same_bytes, other_bytes, misplaced_judged, Ground, IsTaken, StepIs, step_is}

-- what is read is the history whose schedule the bytes are, or else their fault
abbrev pub Told : Scenario → List ℕ → Verdict → Type 0
Told s bytes (Ok xs) = IsScheduleOf s bytes xs
Told s bytes (Err fault) = IsFaultOf s bytes fault

cancel : (front one other : List (List ℕ)) → front ++ one ≡ front ++ other → one ≡ other
cancel [] one other e = e
cancel (line ∷ front) one other e = let later : front ++ one ≡ front ++ other = cc (e) in cancel front one other later

cancel_all : (front more : List (List ℕ)) → front ≡ front ++ more → more ≡ []
cancel_all front more e = sym (cancel front [] more (append-nil front ∙ e))

never_empty : (front : List (List ℕ)) (line : List ℕ) → front ++ line ∷ [] ≡ [] → ⊥
never_empty [] line e = cc
never_empty (first ∷ front) line e = cc

-- ---- where a run ends

-- the run ends behind these entries, and this is the history with its end
record Closing (s : Scenario) (P : Plain → Type 0) (xs ys : List Entry) : Type 0 where
  ground : Ground s P xs
  what : Act
  acts : act (after s xs) 8 ≡ Some what
  end : is_end what.entry.what ≡ true
  is : ys ≡ xs ++ what.entry ∷ []
  finished : IsFinished s ys

pub ends_last : (xs : List Entry) (x : Entry) → is_end x.what ≡ true → ends (xs ++ x ∷ []) ≡ true
ends_last [] x end = end
ends_last (y ∷ []) x end = end
ends_last (y ∷ z ∷ ys) x end = ends_last (z ∷ ys) x end

pub stays : (k : Plain) (a : Act) → act k 8 ≡ Some a → is_end a.entry.what ≡ true → (a.entry ≡ clock_entry End) × (a.next ≡ k)
stays k a acts end = by (clock_acts k a acts) where
  by : (a.entry ≡ clock_entry Tick) ⊎ ((a.entry ≡ clock_entry End) × (a.next ≡ k) × (least k ≡ None)) → (a.entry ≡ clock_entry End) × (a.next ≡ k)
  by (inl tick) = absurd (false≢true (sym (ap (λ (x : Entry). is_end x.what) tick) ∙ end))
  by (inr ended) = (ended.0, ended.1)

-- the end of the run changes nothing
after_end : (s : Scenario) (xs : List Entry) (a : Act) → act (after s xs) 8 ≡ Some a → is_end a.entry.what ≡ true → after s (xs ++ a.entry ∷ []) ≡ after s xs
after_end s xs a acts end =
    let own = stays (after s xs) a acts end in
    let seat : a.entry.seat ≡ 8 = ap (λ (x : Entry). x.seat) own.0 in
    after_behind (opening s) xs (a.entry ∷ []) ∙ ap (next_of (after s xs)) (ap (act (after s xs)) seat ∙ acts) ∙ own.1

closing_of : (s : Scenario) (P : Plain → Type 0) (xs : List Entry) (a : Act) → Ground s P xs → length xs < s.limit → act (after s xs) 8 ≡ Some a → is_end a.entry.what ≡ true → Closing s P xs (xs ++ a.entry ∷ [])
closing_of s P xs a g few acts end =
    let own = stays (after s xs) a acts end in
    let seat : act (after s xs) a.entry.seat ≡ Some a = ap (act (after s xs)) (ap (λ (x : Entry). x.seat) own.0) ∙ acts in
    let last : LegalFrom (after s xs) (a.entry ∷ []) = (subst (λ (o : Option Act). IsOf o a.entry) (sym seat) refl, (λ _. refl), tt) in record {
      ground = g;
      what = a;
      acts = acts;
      end = end;
      is = refl;
      finished = record { allowed = record { legal = legal_behind (opening s) xs (a.entry ∷ []) g.legal g.goes last; few = omega (arith, few, length-append xs (a.entry ∷ [])) }; end = ends_last xs a.entry end };
    }

closed_state : (s : Scenario) (P : Plain → Type 0) (xs ys : List Entry) → Closing s P xs ys → after s ys ≡ after s xs
closed_state s P xs ys c = ap (after s) c.is ∙ after_end s xs c.what c.acts c.end

closed_quiet : (s : Scenario) (P : Plain → Type 0) (xs ys : List Entry) (q : ℕ) → Closing s P xs ys → q ≢ 8 → act (after s xs) q ≡ None
closed_quiet s P xs ys q c other = ap (λ (k : Plain). act k q) (sym (closed_state s P xs ys c)) ∙ quiet_after s ys c.finished.allowed.legal c.finished.end q other

closed_next : (s : Scenario) (P : Plain → Type 0) (xs ys : List Entry) (line : List ℕ) → Closing s P xs ys → Next (after s xs) line → ⊥
closed_next s P xs ys line c next = by (eqb next.seat 8) refl where
  by : (clock : Bool) → eqb next.seat 8 ≡ clock → ⊥
  by true e =
      let seat : next.seat ≡ 8 = grind (arith, nat_tests, e) in
      let one : next.what ≡ c.what = same_some (act (after s xs) 8) next.what c.what (ap (act (after s xs)) (sym seat) ∙ next.acts) c.acts in
      false≢true (sym next.goes ∙ ap (λ (a : Act). is_end a.entry.what) one ∙ c.end)
  by false e = let other : next.seat ≢ 8 = grind (arith, nat_tests, e) in none_some (act (after s xs) next.seat) next.what (closed_quiet s P xs ys next.seat c other) next.acts

-- a history that ends here is this one
closed_same : (s : Scenario) (P : Plain → Type 0) (xs ys zs : List Entry) → Closing s P xs ys → Ends (after s xs) xs zs → zs ≡ ys
closed_same s P xs ys zs c e =
    let one : e.what ≡ c.what = same_some (act (after s xs) 8) e.what c.what e.acts c.acts in
    e.is ∙ ap (λ (a : Act). xs ++ a.entry ∷ []) one ∙ sym c.is

-- the schedule is the lines of the entries in front of the end, and the ending
closed_lines : (s : Scenario) (P : Plain → Type 0) (xs ys : List Entry) → Closing s P xs ys → schedule_lines s ys ≡ history_lines s xs ++ ending s ys
closed_lines s P xs ys c =
    let own : entry_lines (after s xs) (c.what.entry ∷ []) ≡ [] = rw (end_lines (after s xs) c.what.entry c.what.entry.what c.end) refl in
    let lines : entry_lines (opening s) ys ≡ entry_lines (opening s) xs =
    ap (entry_lines (opening s)) c.is ∙ lines_behind (opening s) xs (c.what.entry ∷ []) ∙ ap (λ (more : List (List ℕ)). entry_lines (opening s) xs ++ more) own ∙ append-nil (entry_lines (opening s) xs) in
    append_assoc (history_lines s ys) (period_lines s ys) (final_line s (ends ys) ∷ []) ∙ ap (λ (lines : List (List ℕ)). header_line ∷ lines ++ ending s ys) lines

-- good lines go on with what is left of the ending
closed_good : (s : Scenario) (P : Plain → Type 0) (xs ys : List Entry) (had left : List (List ℕ)) (line : List ℕ) → Closing s P xs ys → ending s ys ≡ had ++ left → AreGood s ((history_lines s xs ++ had) ++ line ∷ []) → (more : List (List ℕ)) × (left ≡ line ∷ more)
closed_good s P xs ys had left line c e (inl (zs, allowed, (more, is))) =
    absurd (by had (is ∙ append_assoc (history_lines s xs ++ had) (line ∷ []) more ∙ append_assoc (history_lines s xs) had (line ∷ more))) where
      by : (front : List (List ℕ)) → history_lines s zs ≡ history_lines s xs ++ (front ++ line ∷ more) → ⊥
      by [] same = closed_next s P xs ys line c (allowed_behind s P c.ground.keeps xs zs line more c.ground.begun c.ground.legal c.ground.goes allowed same).1
      by (first ∷ front) same = closed_next s P xs ys first c (allowed_behind s P c.ground.keeps xs zs first (front ++ line ∷ more) c.ground.begun c.ground.legal c.ground.goes allowed same).1
closed_good s P xs ys had left line c e (inr (zs, fin, (more, is))) =
    by (finished_behind s P c.ground.keeps xs zs (had ++ line ∷ more) c.ground.begun c.ground.legal c.ground.goes fin (is ∙ append_assoc (history_lines s xs ++ had) (line ∷ []) more ∙ append_assoc (history_lines s xs) had (line ∷ more))).1 where
      by : (Ends (after s xs) xs zs × (ending s zs ≡ had ++ line ∷ more)) ⊎ ((l : List ℕ) × (others : List (List ℕ)) × (had ++ line ∷ more ≡ l ∷ others) × Next (after s xs) l) → (rest : List (List ℕ)) × (left ≡ line ∷ rest)
      by (inl end) = (more, cancel had left (line ∷ more) (sym e ∙ ap (ending s) (sym (closed_same s P xs ys zs c end.0)) ∙ end.1))
      by (inr next) = absurd (closed_next s P xs ys next.0 c next.3)

-- lines are a whole schedule where nothing of the ending is left
closed_whole : (s : Scenario) (P : Plain → Type 0) (xs ys : List Entry) (had left : List (List ℕ)) → Closing s P xs ys → ending s ys ≡ had ++ left → AreWhole s (history_lines s xs ++ had) → left ≡ []
closed_whole s P xs ys had left c e (zs, fin, is) = by (finished_behind s P c.ground.keeps xs zs had c.ground.begun c.ground.legal c.ground.goes fin (sym is)).1 where
  by : (Ends (after s xs) xs zs × (ending s zs ≡ had)) ⊎ ((l : List ℕ) × (others : List (List ℕ)) × (had ≡ l ∷ others) × Next (after s xs) l) → left ≡ []
  by (inl end) = cancel_all had left (sym end.1 ∙ ap (ending s) (closed_same s P xs ys zs c end.0) ∙ e)
  by (inr next) = absurd (closed_next s P xs ys next.0 c next.3)

-- behind the entries no line differs only in its answer
closed_answer : (s : Scenario) (P : Plain → Type 0) (xs ys : List Entry) (had : List (List ℕ)) (line : List ℕ) → Closing s P xs ys → DiffersInAnswer s (history_lines s xs ++ had) line → ⊥
closed_answer s P xs ys had line c d =
    by (behind s P c.ground.keeps xs d.history [] had c.ground.begun c.ground.legal d.legal c.ground.goes tt (history_behind s xs d.history had (sym d.before_is))) where
      other : d.cpu ≢ 8
      other = omega (arith, d.processor)

      none : (k : Plain) → k ≡ after s xs → act k d.cpu ≡ Some d.next → ⊥
      none k same acts = none_some (act (after s xs) d.cpu) d.next (closed_quiet s P xs ys d.cpu c other) (ap (λ (j : Plain). act j d.cpu) (sym same) ∙ acts)

      by : Behind (after s xs) xs d.history [] had → ⊥
      by (inl same) = none (after s d.history) (ap (after s) same.0) d.acts
      by (inr (inl end)) = none (after s d.history) (ap (after s) (closed_same s P xs ys d.history c end.0) ∙ closed_state s P xs ys c) d.acts
      by (inr (inr m)) = closed_next s P xs ys m.0 c m.3

closed_begin : (s : Scenario) (P : Plain → Type 0) (xs ys : List Entry) (had left : List (List ℕ)) → Closing s P xs ys → ending s ys ≡ had ++ left → schedule_lines s ys ≡ (history_lines s xs ++ had) ++ left
closed_begin s P xs ys had left c e = closed_lines s P xs ys c ∙ ap (λ (lines : List (List ℕ)). history_lines s xs ++ lines) e ∙ sym (append_assoc (history_lines s xs) had left)

whole_text : (s : Scenario) (bytes : List ℕ) (ys : List Entry) → whole_lines bytes ≡ schedule_lines s ys → loose_end bytes ≡ [] → bytes ≡ schedule_text s ys
whole_text s bytes ys lines loose =
    sym (again bytes) ∙ ap (λ (l : List (List ℕ)). text_of_lines l ++ loose_end bytes) lines ∙ ap (λ (l : List ℕ). text_of_lines (schedule_lines s ys) ++ l) loose ∙ append-nil (text_of_lines (schedule_lines s ys))

-- what follows a whole schedule
loose_told : (s : Scenario) (P : Plain → Type 0) (xs ys : List Entry) (had : List (List ℕ)) (bytes loose : List ℕ) (n : ℕ) → Closing s P xs ys → ending s ys ≡ had → n ≡ length (history_lines s xs ++ had) + 1
    → whole_lines bytes ≡ history_lines s xs ++ had → loose_end bytes ≡ loose → Told s bytes (verdict_of ys (loose_fault (cpus_in s.clusters) n loose))
loose_told s P xs ys had bytes [] n c e number lines loose =
    let all : schedule_lines s ys ≡ history_lines s xs ++ had = closed_lines s P xs ys c ∙ ap (λ (more : List (List ℕ)). history_lines s xs ++ more) e in
    record { finished = c.finished; text = whole_text s bytes ys (lines ∙ sym all) loose }
loose_told s P xs ys had bytes (b ∷ more) n c e number lines loose =
    let all : schedule_lines s ys ≡ history_lines s xs ++ had = closed_lines s P xs ys c ∙ ap (λ (more : List (List ℕ)). history_lines s xs ++ more) e in
    let some : b ∷ more ≢ [] = λ differ. cc in record {
      before = history_lines s xs ++ had;
      number = number;
      good = inr (ys, c.finished, ([], all ∙ sym (append-nil (history_lines s xs ++ had))));
      wrong = inr (b ∷ more, inr (record { lines_are = lines; whole = (ys, c.finished, sym all); loose = loose; some = some }), misplaced_judged s (history_lines s xs ++ had) (b ∷ more) (closed_answer s P xs ys had (b ∷ more) c));
    }

one_more : (s : Scenario) (xs : List Entry) (had : List (List ℕ)) (line : List ℕ) (rest : List (List ℕ)) → (history_lines s xs ++ had) ++ line ∷ rest ≡ (history_lines s xs ++ had ++ line ∷ []) ++ rest
one_more s xs had line rest = sym (append_assoc (history_lines s xs ++ had) (line ∷ []) rest)

-- what is read of the ending
ending_told : (s : Scenario) (P : Plain → Type 0) (xs ys : List Entry) (had left lines : List (List ℕ)) (bytes loose : List ℕ) (n : ℕ) → Closing s P xs ys → ending s ys ≡ had ++ left → n ≡ length (history_lines s xs ++ had) + 1
    → whole_lines bytes ≡ (history_lines s xs ++ had) ++ lines → loose_end bytes ≡ loose → Told s bytes (verdict_of ys (ending_fault (cpus_in s.clusters) n left lines loose))
ending_told s P xs ys had [] [] bytes loose n c e number lines rest_is = loose_told s P xs ys had bytes loose n c (e ∙ append-nil had) number (lines ∙ append-nil (history_lines s xs ++ had)) rest_is
ending_told s P xs ys had [] (line ∷ rest) bytes loose n c e number lines rest_is =
    let bad : AreGood s ((history_lines s xs ++ had) ++ line ∷ []) → ⊥ = λ good. let more = closed_good s P xs ys had [] line c e good in let differ = more.1 in cc (differ) in record {
      before = history_lines s xs ++ had;
      number = number;
      good = inr (ys, c.finished, ([], closed_begin s P xs ys had [] c e));
      wrong = inr (line, inl ((rest, lines ∙ sym (append_assoc (history_lines s xs ++ had) (line ∷ []) rest)), bad), misplaced_judged s (history_lines s xs ++ had) line (closed_answer s P xs ys had line c));
    }
ending_told s P xs ys had (wanted ∷ left) [] bytes loose n c e number lines rest_is =
    let lacks : AreWhole s (history_lines s xs ++ had) → ⊥ = λ whole. let differ = closed_whole s P xs ys had (wanted ∷ left) c e whole in cc (differ) in record {
      before = history_lines s xs ++ had;
      number = number;
      good = inr (ys, c.finished, (wanted ∷ left, closed_begin s P xs ys had (wanted ∷ left) c e));
      wrong = inl ((lines ∙ append-nil (history_lines s xs ++ had), lacks), refl);
    }
ending_told s P xs ys had (wanted ∷ left) (line ∷ rest) bytes loose n c e number lines rest_is =
    by (bytes_eq line wanted) refl (λ same.
    let one : (had ++ line ∷ []) ++ left ≡ had ++ wanted ∷ left = append_assoc had (line ∷ []) left ∙ ap (λ (l : List ℕ). had ++ l ∷ left) same in
    let longer : (history_lines s xs ++ had) ++ line ∷ [] ≡ history_lines s xs ++ (had ++ line ∷ []) = append_assoc (history_lines s xs) had (line ∷ []) in
    ending_told s P xs ys (had ++ line ∷ []) left rest bytes loose (n + 1) c (e ∙ sym one)
    (omega (arith, number, ap length longer, length-append (history_lines s xs ++ had) (line ∷ [])))
    (lines ∙ sym (append_assoc (history_lines s xs ++ had) (line ∷ []) rest) ∙ ap (λ (front : List (List ℕ)). front ++ rest) longer) rest_is) where
      by : (same : Bool) → bytes_eq line wanted ≡ same → (line ≡ wanted → Told s bytes (verdict_of ys (ending_fault (cpus_in s.clusters) (n + 1) left rest loose)))
          → Told s bytes (verdict_of ys (cond same (ending_fault (cpus_in s.clusters) (n + 1) left rest loose) (stops_at n (misplaced (cpus_in s.clusters) line))))
      by true is later = later (same_bytes line wanted is)
      by false is later =
          let bad : AreGood s ((history_lines s xs ++ had) ++ line ∷ []) → ⊥ =
          λ good. let more = closed_good s P xs ys had (wanted ∷ left) line c e good in let one : line ≡ wanted = cc (more.1) in other_bytes line wanted is one in record {
            before = history_lines s xs ++ had;
            number = number;
            good = inr (ys, c.finished, (wanted ∷ left, closed_begin s P xs ys had (wanted ∷ left) c e));
            wrong = inr (line, inl ((rest, lines ∙ sym (append_assoc (history_lines s xs ++ had) (line ∷ []) rest)), bad), misplaced_judged s (history_lines s xs ++ had) line (closed_answer s P xs ys had line c));
          }

-- ---- the entries

-- The statistics that the state after each legal history has stored are those of the history.
abbrev pub AreShown : Scenario → Type 0
AreShown s = (ys : List Entry) → Legal s ys → period_lines_from (after s ys) (stored_in (after s ys)) 1 ≡ period_lines s ys

-- the lines of an ending, as they are stored
stored_ending : (s : Scenario) (P : Plain → Type 0) (xs ys : List Entry) → AreShown s → Closing s P xs ys → ending s ys ≡ ending_lines s (after s xs)
stored_ending s P xs ys shown c =
    ap (λ (lines : List (List ℕ)). lines ++ final_line s (ends ys) ∷ []) (sym (shown ys c.finished.allowed.legal))
    ∙ ap (λ (k : Plain). period_lines_from k (stored_in k) 1 ++ final_line s (ends ys) ∷ []) (closed_state s P xs ys c)
    ∙ ap (λ (ended : Bool). period_lines_from (after s xs) (stored_in (after s xs)) 1 ++ final_line s ended ∷ []) c.finished.end

-- what is known behind one entry more
record OneMore (s : Scenario) (P : Plain → Type 0) (xs : List Entry) (line : List ℕ) (a : Act) : Type 0 where
  ground : Ground s P (xs ++ a.entry ∷ [])
  state : after s (xs ++ a.entry ∷ []) ≡ a.next
  lines : history_lines s (xs ++ a.entry ∷ []) ≡ history_lines s xs ++ line ∷ []

one_entry_more : (s : Scenario) (P : Plain → Type 0) (xs : List Entry) (line : List ℕ) (a : Act) → Ground s P xs → IsTaken (after s xs) line a → OneMore s P xs line a
one_entry_more s P xs line a g t =
    let seat : act (after s xs) a.entry.seat ≡ Some a = ap (act (after s xs)) (own (after s xs) t.seat a t.acts).seat ∙ t.acts in
    let state : after s (xs ++ a.entry ∷ []) ≡ a.next = after_behind (opening s) xs (a.entry ∷ []) ∙ ap (next_of (after s xs)) seat in
    let last : LegalFrom (after s xs) (a.entry ∷ []) = (subst (λ (o : Option Act). IsOf o a.entry) (sym seat) refl, (λ _. refl), tt) in
    let alone : entry_lines (after s xs) (a.entry ∷ []) ≡ line ∷ [] = append-nil (lines_of_entry (after s xs) a.entry a.entry.what) ∙ t.lines in record {
      ground = record {
        keeps = g.keeps;
        here = subst P (sym state) (g.keeps.next (after s xs) t.seat a g.here t.acts);
        begun = g.begun;
        legal = legal_behind (opening s) xs (a.entry ∷ []) g.legal g.goes last;
        goes = go_on_behind xs (a.entry ∷ []) g.goes (t.goes, tt);
      };
      state = state;
      lines = ap (λ (lines : List (List ℕ)). header_line ∷ lines) (lines_behind (opening s) xs (a.entry ∷ []) ∙ ap (λ (lines : List (List ℕ)). entry_lines (opening s) xs ++ lines) alone);
    }

good_entries : (s : Scenario) (P : Plain → Type 0) (xs : List Entry) → Ground s P xs → length xs ≤ s.limit → AreGood s (history_lines s xs)
good_entries s P xs g few = inl (xs, record { legal = g.legal; few = few }, ([], sym (append-nil (history_lines s xs))))

not_whole : (s : Scenario) (P : Plain → Type 0) (xs : List Entry) → Ground s P xs → AreWhole s (history_lines s xs) → ⊥
not_whole s P xs g (zs, fin, is) = by (finished_behind s P g.keeps xs zs [] g.begun g.legal g.goes fin (sym is ∙ sym (append-nil (history_lines s xs)))).1 where
  by : (Ends (after s xs) xs zs × (ending s zs ≡ [])) ⊎ ((l : List ℕ) × (others : List (List ℕ)) × ([] ≡ l ∷ others) × Next (after s xs) l) → ⊥
  by (inl end) = never_empty (period_lines s zs) (final_line s (ends zs)) end.1
  by (inr next) = let differ = next.2 in cc (differ)

-- what is read of the entries and of the ending
entries_told : (s : Scenario) (P : Plain → Type 0) (xs : List Entry) (lines : List (List ℕ)) (bytes loose : List ℕ) (n : ℕ) → AreShown s → Ground s P xs → length xs ≤ s.limit → n ≡ length (history_lines s xs) + 1
    → whole_lines bytes ≡ history_lines s xs ++ lines → loose_end bytes ≡ loose → Told s bytes (entries_from s (cpus_in s.clusters) (after s xs) xs n lines loose)
entries_told s P xs [] bytes loose n shown g few number lines rest = record {
  before = history_lines s xs;
  number = number;
  good = good_entries s P xs g few;
  wrong = inl ((lines ∙ append-nil (history_lines s xs), not_whole s P xs g), refl);
}
entries_told s P xs (line ∷ more) bytes loose n shown g few number lines rest =
    by (step_of s (cpus_in s.clusters) (after s xs) (length xs) line) (step_is s P xs line g) (λ a below t.
    let o = one_entry_more s P xs line a g t in
    subst (λ (k : Plain). Told s bytes (entries_from s (cpus_in s.clusters) k (xs ++ a.entry ∷ []) (n + 1) more loose)) o.state
    (entries_told s P (xs ++ a.entry ∷ []) more bytes loose (n + 1) shown o.ground (omega (arith, below, length-append xs (a.entry ∷ [])))
    (omega (arith, number, ap length o.lines, length-append (history_lines s xs) (line ∷ [])))
    (lines ∙ sym (append_assoc (history_lines s xs) (line ∷ []) more) ∙ ap (λ (front : List (List ℕ)). front ++ more) (sym o.lines)) rest)) where
      by : (step : Step) → StepIs s xs line step → ((a : Act) → length xs < s.limit → IsTaken (after s xs) line a → Told s bytes (entries_from s (cpus_in s.clusters) a.next (xs ++ a.entry ∷ []) (n + 1) more loose))
          → Told s bytes (verdict_by step n (λ a. entries_from s (cpus_in s.clusters) a.next (xs ++ a.entry ∷ []) (n + 1) more loose) (λ a. verdict_of (xs ++ a.entry ∷ []) (ending_fault (cpus_in s.clusters) n (ending_lines s a.next) (line ∷ more) loose)))
      by (Takes a) t later = later a t.0 t.1
      by (Closes a) t later =
          let c = closing_of s P xs a g t.0 t.1.acts t.1.end in
          let nothing : history_lines s xs ++ [] ≡ history_lines s xs = append-nil (history_lines s xs) in
          let still : after s xs ≡ a.next = sym (stays (after s xs) a t.1.acts t.1.end).1 in
          subst (λ (k : Plain). Told s bytes (verdict_of (xs ++ a.entry ∷ []) (ending_fault (cpus_in s.clusters) n (ending_lines s k) (line ∷ more) loose))) still
          (ending_told s P xs (xs ++ a.entry ∷ []) [] (ending_lines s (after s xs)) (line ∷ more) bytes loose n c (stored_ending s P xs (xs ++ a.entry ∷ []) shown c)
          (number ∙ ap (λ (l : List (List ℕ)). length l + 1) (sym nothing)) (lines ∙ ap (λ (l : List (List ℕ)). l ++ line ∷ more) (sym nothing)) rest)
      by (Stops why) t later = record {
        before = history_lines s xs;
        number = number;
        good = good_entries s P xs g few;
        wrong = inr (line, inl ((more, lines ∙ sym (append_assoc (history_lines s xs) (line ∷ []) more)), t.bad), t.judged);
      }

-- ---- the first line

first_header : (s : Scenario) (line : List ℕ) → AreGood s (line ∷ []) → line ≡ header_line
first_header s line (inl (zs, allowed, (more, is))) = let e : header_line ∷ entry_lines (opening s) zs ≡ line ∷ more = is in sym (cc (e))
first_header s line (inr (zs, fin, (more, is))) = let e : header_line ∷ (entry_lines (opening s) zs ++ period_lines s zs ++ final_line s (ends zs) ∷ []) ≡ line ∷ more = is in sym (cc (e))

no_answer_first : (s : Scenario) (line : List ℕ) → DiffersInAnswer s [] line → ⊥
no_answer_first s line d = let differ : ◌≡◌ {A = List (List ℕ)} [] (header_line ∷ entry_lines (opening s) d.history) = d.before_is in cc (differ)

not_whole_first : (s : Scenario) → AreWhole s [] → ⊥
not_whole_first s (zs, fin, is) = let differ : ◌≡◌ {A = List (List ℕ)} [] (header_line ∷ (entry_lines (opening s) zs ++ period_lines s zs ++ final_line s (ends zs) ∷ [])) = is in cc (differ)

good_none : (s : Scenario) → AreGood s []
good_none s = inl ([], record { legal = tt; few = omega arith }, (history_lines s [], refl))

lines_told : (s : Scenario) (P : Plain → Type 0) (lines : List (List ℕ)) (bytes loose : List ℕ) → AreShown s → Keeps s P → P (opening s) → whole_lines bytes ≡ lines → loose_end bytes ≡ loose → Told s bytes (verdict_on s (cpus_in s.clusters) (opening s) lines loose)
lines_told s P [] bytes loose shown keeps begun lines rest = record {
  before = [];
  number = refl;
  good = good_none s;
  wrong = inl ((lines, not_whole_first s), refl);
}
lines_told s P (line ∷ more) bytes loose shown keeps begun lines rest = by (bytes_eq line header_line) refl where
  by : (same : Bool) → bytes_eq line header_line ≡ same → Told s bytes (cond same (entries_from s (cpus_in s.clusters) (opening s) [] 2 more loose) (fault_at 1 (misplaced (cpus_in s.clusters) line)))
  by true is =
      let one : line ≡ header_line = same_bytes line header_line is in
      let g : Ground s P [] = record { keeps = keeps; here = begun; begun = begun; legal = tt; goes = tt } in
      entries_told s P [] more bytes loose 2 shown g (omega arith) refl (lines ∙ ap (λ (l : List ℕ). l ∷ more) one) rest
  by false is =
      let bad : AreGood s (line ∷ []) → ⊥ = λ good. other_bytes line header_line is (first_header s line good) in record {
        before = [];
        number = refl;
        good = good_none s;
        wrong = inr (line, inl ((more, lines), bad), misplaced_judged s [] line (no_answer_first s line));
      }

-- The verdict on bytes is the history whose schedule they are, or their fault.
pub verdict_told : (s : Scenario) (P : Plain → Type 0) (bytes : List ℕ) → AreShown s → Keeps s P → P (opening s) → Told s bytes (verdict s (cpus_in s.clusters) (opening s) bytes)
verdict_told s P bytes shown keeps begun = lines_told s P (whole_lines bytes) bytes (loose_end bytes) shown keeps begun refl refl
