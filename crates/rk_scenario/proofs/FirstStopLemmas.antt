-- A fault stands at the first line that no valid scenario could have there.
use Rattle.std.proofs.Common.{◌≡◌, ℕ, suc, ◌+◌, ◌-◌, ◌≤◌, ◌<◌, Bool, true, false, cond, ◌⊎◌, inl, inr, List, [], ◌∷◌, ◌++◌, length, take, Some, Result, Ok, Err, codes, refl, sym, ap, subst, ◌∙◌, arith}
use Rattle.std.specs.Prelude.{nat_lt, nat_le}
use Rattle.std.proofs.lemmas.Bool.{ltb-true, ltb-false}
use Rattle.rk_model.specs.declared.scenario.Body.{Body}
use Rattle.rk_model.specs.declared.scenario.Scenario.{Scenario}
use Rattle.rk_model.specs.declared.scenario.ScenarioWhy.{ScenarioWhy}
use Rattle.rk_model.specs.declared.scenario.ScenarioWhy.TheVariants.{TooLarge}
use Rattle.rk_model.specs.Text.Words.{lines_of, words_of, number_of, decimal_of}
use Rattle.rk_model.specs.Text.Reading.{Phase, Start, Headed, Clustered, Timed, Limited, InBody, InInits, Draft, start, number_operand, is_header, is_end, cluster_line, ticks_line, after_words, after_line, Fault, Verdict, Reads, Faults, at_end, goes_on, verdict_from, fault_in}
use Rattle.rk_model.specs.Text.Scenarios.{cpus_in}
use Rattle.rk_scenario.specs.TextLaws.{AreLinesOf, IsFirstStop, FaultsAtFirstStop}
use Rattle.rk_scenario.proofs.LeftLinesLemmas.{draft_at}
use Rattle.rk_scenario.proofs.ReaderLemmas.{Keeps, step_sound}
use Rattle.rk_scenario.proofs.TextLemmas.{start_keeps, line_is, lines_tell, lines_stated}

-- ---- each draft can be completed

-- there are lines with which reading goes on from the draft to a scenario
abbrev GoesOn : Draft → Type 0
GoesOn d = (more : List (List ℕ)) × (s : Scenario) × ((n : ℕ) → verdict_from d n more ≡ Reads s)

clustered_goes_on : (b : Scenario) (o : Body) → GoesOn (draft_at Clustered b o)
unfolding after_line after_words ticks_line number_operand number_of decimal_of
clustered_goes_on b o = (codes "ticks 0" ∷ [], record b { horizon = 0 }, λ n. refl)

headed_goes_on : (b : Scenario) (o : Body) → b.clusters ≡ [] → GoesOn (draft_at Headed b o)
unfolding after_line after_words cluster_line number_operand number_of decimal_of
headed_goes_on b o alone =
    let rest = clustered_goes_on (record b { clusters = b.clusters ++ 1 ∷ [] }) o in
    let few : nat_lt (length b.clusters) 4 ≡ true = rw alone refl in
    let few_cpus : nat_le (cpus_in b.clusters + 1) 8 ≡ true = rw alone refl in
    (codes "cluster 1" ∷ rest.0, rest.1, λ n. rw (few, few_cpus) (rest.2 (n + 1)))

start_goes_on : (b : Scenario) (o : Body) → b.clusters ≡ [] → GoesOn (draft_at Start b o)
unfolding after_line after_words is_header
start_goes_on b o alone =
    let rest = headed_goes_on b o alone in
    (codes "rtems 1" ∷ rest.0, rest.1, λ n. rest.2 (n + 1))

body_goes_on : (b : Scenario) (o : Body) → GoesOn (draft_at InBody b o)
unfolding after_line after_words is_end
body_goes_on b o = (codes "end" ∷ [], record b { bodies = b.bodies ++ o ∷ [] }, λ n. refl)

draft_goes_on : (p : Phase) (b : Scenario) (o : Body) → Keeps p b o → GoesOn (draft_at p b o)
draft_goes_on Start b o keeps = start_goes_on b o keeps.alone
draft_goes_on Headed b o keeps = headed_goes_on b o keeps.alone
draft_goes_on Clustered b o keeps = clustered_goes_on b o
draft_goes_on Timed b o keeps = ([], b, λ n. refl)
draft_goes_on Limited b o keeps = ([], b, λ n. refl)
draft_goes_on InBody b o keeps = body_goes_on b o
draft_goes_on InInits b o keeps = ([], b, λ n. refl)

-- ---- where reading stops

-- The fault that reading from the draft meets is at the line of index at: reading could have gone on before it, and can't with it.
record StopsAt (d : Draft) (n : ℕ) (lines : List (List ℕ)) (fault : Fault) : Type 0 where
  at : ℕ
  line : fault.line ≡ n + at
  before : (more : List (List ℕ)) × (s : Scenario) × (verdict_from d n (take at lines ++ more) ≡ Reads s)
  stops : at < length lines → (more : List (List ℕ)) (s : Scenario) → verdict_from d n (take (suc at) lines ++ more) ≡ Reads s → ⊥
  ends : length lines ≤ at → at ≡ length lines

-- the fault of an end is at the line that would follow
end_line : (p : Phase) (s : Scenario) (n : ℕ) (fault : Fault) → at_end p s n ≡ Faults fault → fault.line ≡ n
end_line Start s n fault e = cc
end_line Headed s n fault e = cc
end_line Clustered s n fault e = cc
end_line Timed s n fault e = absurd cc
end_line Limited s n fault e = absurd cc
end_line InBody s n fault e = cc
end_line InInits s n fault e = absurd cc

goes_on_faults : (r : Result Draft ScenarioWhy) (n : ℕ) (rest : Draft → Verdict) (fault : Fault) → goes_on r n rest ≡ Faults fault
    → ((next : Draft) × (r ≡ Ok next) × (rest next ≡ Faults fault)) ⊎ ((why : ScenarioWhy) × (r ≡ Err why) × (fault.line ≡ n))
goes_on_faults (Ok next) n rest fault e = inl (next, refl, e)
goes_on_faults (Err why) n rest fault e = inr (why, refl, cc)

refused_reads : (r : Result Draft ScenarioWhy) (why : ScenarioWhy) (n : ℕ) (rest : Draft → Verdict) (s : Scenario) → r ≡ Err why → goes_on r n rest ≡ Reads s → ⊥
refused_reads (Ok next) why n rest s is e = absurd cc
refused_reads (Err other) why n rest s is e = absurd cc

-- the verdict behind a line that was taken is that on what follows
taken_reads : (r : Result Draft ScenarioWhy) (next : Draft) (n : ℕ) (rest : Draft → Verdict) (v : Verdict) → r ≡ Ok next → goes_on r n rest ≡ v → rest next ≡ v
taken_reads (Ok other) next n rest v is e = let same : other ≡ next = cc in ap rest (sym same) ∙ e
taken_reads (Err why) next n rest v is e = absurd cc

line_keeps : (d : Draft) (line : List ℕ) (next : Draft) → after_line d line ≡ Ok next → Keeps d.phase d.scenario d.body → Keeps next.phase next.scenario next.body
line_keeps d line next e keeps =
    let l = line_is d line next e in
    elim l.step [
      | inl t ↦ subst (λ (x : Draft). Keeps x.phase x.scenario x.body) t.1 keeps
      | inr t ↦ (step_sound d.phase d.scenario d.body (words_of line) next t.1 keeps).keeps
    ]

stop_here : (d : Draft) (line : List ℕ) (lines : List (List ℕ)) (n : ℕ) (fault : Fault) (why : ScenarioWhy) → after_line d line ≡ Err why → fault.line ≡ n
    → Keeps d.phase d.scenario d.body → StopsAt d n (line ∷ lines) fault
stop_here d line lines n fault why refused at-line keeps =
    let on = draft_goes_on d.phase d.scenario d.body keeps in
    record {
      at = 0;
      line = omega (arith, at-line);
      before = (on.0, on.1, on.2 n);
      stops = λ lt more s e. refused_reads (after_line d line) why n (λ next. verdict_from next (n + 1) (take 0 lines ++ more)) s refused e;
      ends = λ le. absurd (let none : suc (length lines) ≤ 0 = le in omega arith);
    }

stop_later : (d next : Draft) (line : List ℕ) (lines : List (List ℕ)) (n : ℕ) (fault : Fault) → after_line d line ≡ Ok next → StopsAt next (n + 1) lines fault → StopsAt d n (line ∷ lines) fault
stop_later d next line lines n fault taken h = record {
  at = suc h.at;
  line = omega (arith, h.line);
  before = (h.before.0, h.before.1, ap (λ (r : Result Draft ScenarioWhy). goes_on r n (λ x. verdict_from x (n + 1) (take h.at lines ++ h.before.0))) taken ∙ h.before.2);
  stops = λ lt more s e. h.stops (let less : suc h.at < suc (length lines) = lt in omega arith) more s
      (taken_reads (after_line d line) next n (λ x. verdict_from x (n + 1) (take (suc h.at) lines ++ more)) (Reads s) taken e);
  ends = λ le. let less : suc (length lines) ≤ suc h.at = le in ap suc (h.ends (omega arith));
}

stops_at : (lines : List (List ℕ)) (d : Draft) (n : ℕ) (fault : Fault) → verdict_from d n lines ≡ Faults fault → Keeps d.phase d.scenario d.body → StopsAt d n lines fault
stops_at [] d n fault e keeps =
    let on = draft_goes_on d.phase d.scenario d.body keeps in
    record {
      at = 0;
      line = omega (arith, end_line d.phase d.scenario n fault e);
      before = (on.0, on.1, on.2 n);
      stops = λ lt more s e. absurd (let none : 0 < 0 = lt in omega arith);
      ends = λ le. refl;
    }
stops_at (line ∷ lines) d n fault e keeps =
    elim (goes_on_faults (after_line d line) n (λ next. verdict_from next (n + 1) lines) fault e) [
      | inl t ↦ stop_later d t.0 line lines n fault t.1 (stops_at lines t.0 (n + 1) fault t.2 (line_keeps d line t.0 t.1 keeps))
      | inr t ↦ stop_here d line lines n fault t.0 t.1 t.2 keeps
    ]

-- ---- the law

first_stop : (lines : List (List ℕ)) (fault : Fault) → verdict_from start 1 lines ≡ Faults fault → IsFirstStop lines fault.line
first_stop lines fault e =
    let h = stops_at lines start 1 fault e start_keeps in
    let back : fault.line - 1 ≡ h.at = omega (arith, h.line) in
    let on : fault.line ≡ suc h.at = omega (arith, h.line) in
    record {
      before = (h.before.0, h.before.1, rw back (lines_tell (take h.at lines ++ h.before.0) h.before.1 h.before.2));
      stops = λ le begin. h.stops (omega (arith, h.line)) begin.0 begin.1
          (lines_stated (take (suc h.at) lines ++ begin.0) begin.1 (subst (λ (k : ℕ). AreLinesOf (take k lines ++ begin.0) begin.1) on begin.2));
      ends = λ lt. (
        let end : h.at ≡ length lines = h.ends (omega (arith, h.line)) in omega (arith, h.line),
        λ s are. let read : verdict_from start 1 lines ≡ Reads s = lines_stated lines s are in cc,
      );
    }

fault_is : (v : Verdict) (fault : Fault) → fault_in v ≡ Some fault → v ≡ Faults fault
fault_is (Reads s) fault e = absurd cc
fault_is (Faults other) fault e = cc

-- a fault is that of the whole text, or of its lines
pub size_faults : (large : Bool) (first fault : Fault) (v : Verdict) → fault_in (cond large (Faults first) v) ≡ Some fault → ((large ≡ true) × (fault ≡ first)) ⊎ ((large ≡ false) × (v ≡ Faults fault))
size_faults true first fault v e = inl (refl, cc)
size_faults false first fault v e = inr (refl, fault_is v fault e)

pub faults_at_first_stop : FaultsAtFirstStop
faults_at_first_stop bytes fault e =
    elim (size_faults (nat_lt 1048576 (length bytes)) (record { line = 0; why = TooLarge }) fault (verdict_from start 1 (lines_of bytes)) e) [
      | inl t ↦ inl (ltb-true 1048576 (length bytes) t.0, ap (λ (x : Fault). x.line) t.1)
      | inr t ↦ inr (ltb-false 1048576 (length bytes) t.0, first_stop (lines_of bytes) fault t.1)
    ]
