-- Which seat the line of an entry names, and that the lines of an ending name none.
use Rattle.std.proofs.Common.{◌≡◌, ◌≢◌, ℕ, zero, suc, ◌+◌, ◌-◌, ◌<◌, ◌≤◌, ◌⊎◌, inl, inr, List, [], ◌∷◌, ◌++◌, Bool, true, false, cond, eqb, ltb, Option, Some, None, is_none, arith, refl, ap, subst, ⊎_elim}
use Rattle.std.specs.Prelude.{nat_le}
use Rattle.std.specs.List.{AllByRecursion}
use Rattle.std.specs.Fmt.{decimal}
use Rattle.std.proofs.lemmas.Bool.{cases_lt}
use Rattle.std.proofs.lemmas.Bool.Decides.{nat_tests}
use Rattle.std.proofs.lemmas.List.{get_or_past}
use Rattle.std.proofs.lemmas.Fmt.{decimal_digit}
use Rattle.rk_model.specs.declared.scenario.Scenario.{Scenario}
use Rattle.rk_model.specs.declared.period.Stats.{Stats}
use Rattle.rk_model.specs.declared.entry.Entry.{Entry}
use Rattle.rk_model.specs.declared.entry.Reply.{Reply}
use Rattle.rk_model.specs.declared.entry.What.TheVariants.{Tick, End}
use Rattle.rk_model.specs.State.{Plain, thread_at, period_at}
use Rattle.rk_model.specs.Scheduling.Helping.{helped}
use Rattle.rk_model.specs.Scheduling.Running.{view_of, ready, caller, least}
use Rattle.rk_model.specs.Scheduling.Seats.{all_cpus, cpu_count}
use Rattle.rk_model.specs.Scheduling.Ticks.{tick}
use Rattle.rk_model.specs.Steps.{Act, act, act_of, clock_at, what_of, clock_entry}
use Rattle.rk_model.specs.Histories.{is_end, ends}
use Rattle.rk_model.specs.Text.Schedules.{call_text, seat_text, directive_line, tick_line, lines_of_entry, period_text, period_line, period_lines_among, period_lines_from, period_lines, final_line}
use Rattle.rk_schedule.specs.Reading.{named_seat}

-- ---- lines

named_digit : (q : ℕ) (bytes : List ℕ) → q < 8 → named_seat (112 ∷ (48 + q) ∷ bytes) ≡ Some q
unfolding named_seat
named_digit q bytes few =
    let low : nat_le 48 (48 + q) ≡ true = grind (arith, nat_tests) in
    let high : nat_le (48 + q) 55 ≡ true = grind (arith, nat_tests, few) in
    let same : 48 + q - 48 ≡ q = omega arith in
    rw (low, high, same) refl

-- the line of a processor's entry, whatever it answers, names the processor
pub named_call : (s : Scenario) (x : Entry) (more : List ℕ) → x.seat < 8 → named_seat (call_text s x ++ more) ≡ Some x.seat
unfolding call_text seat_text
named_call s x more few =
    let digit : decimal x.seat ≡ (48 + x.seat) ∷ [] = decimal_digit x.seat (omega (arith, few)) in
    rw digit (named_digit x.seat _ few)

-- the line of a tick names the clock
pub named_tick : (k : Plain) → named_seat (tick_line k) ≡ Some 8
unfolding named_seat tick_line
named_tick k = refl

named_period : (index : ℕ) (stats : Stats) → named_seat (period_line index stats) ≡ None
unfolding named_seat period_text
named_period index stats = refl

named_final : (s : Scenario) (ended : Bool) → named_seat (final_line s ended) ≡ None
unfolding named_seat final_line
named_final s true = refl
named_final s false = refl

-- each of the lines names no seat
abbrev pub NameNone : List (List ℕ) → Type 0
NameNone lines = AllByRecursion (λ line. named_seat line ≡ None) lines

-- the lines of an ending
abbrev pub ending : Scenario → List Entry → List (List ℕ)
ending s xs = period_lines s xs ++ final_line s (ends xs) ∷ []

none_among : (k : Plain) (stats : ℕ → Stats) (index n : ℕ) (more : List (List ℕ)) → NameNone more → NameNone (period_lines_among k stats index n ++ more)
none_among k stats index zero more none = none
none_among k stats index (suc n) more none = by (period_at k index).live (none_among k stats (index + 1) n more none) where
  by : (live : Bool) → NameNone (period_lines_among k stats (index + 1) n ++ more) → NameNone (cond live (period_line index (stats index) ∷ []) [] ++ period_lines_among k stats (index + 1) n ++ more)
  by true later = (named_period index (stats index), later)
  by false later = later

none_from : (k : Plain) (stats : ℕ → Stats) (index : ℕ) (more : List (List ℕ)) → NameNone more → NameNone (period_lines_from k stats index ++ more)
unfolding period_lines_from
none_from k stats index more none = none_among k stats index (65 - index) more none

-- the lines of an ending name no seat
pub none_named : (s : Scenario) (xs : List Entry) → NameNone (ending s xs)
none_named s xs = none_from _ _ 1 (final_line s (ends xs) ∷ []) (named_final s (ends xs), tt)

-- ---- what seats do

pub past_caller : (k : Plain) (q : ℕ) → cpu_count k ≤ q → caller k q ≡ None
past_caller k q h = ap (λ o. ready k (view_of k o (helped k q))) (get_or_past (all_cpus k.clusters) q None h)

within_caller : (k : Plain) (q t : ℕ) → caller k q ≡ Some t → q < cpu_count k
within_caller k q t is = ⊎_elim (λ h. h) (λ h. let no : ⊥ = cc (past_caller k q h, is) in absurd no) (cases_lt q (cpu_count k))

-- what a processor did has one line, which names it
pub record IsCall (k : Plain) (q : ℕ) (a : Act) : Type 0 where
  pub processor : q < 8
  pub seat : a.entry.seat ≡ q
  pub goes_on : is_end a.entry.what ≡ false
  pub lines : lines_of_entry k a.entry a.entry.what ≡ directive_line k.scenario a.entry ∷ []

abbrev AreCall : Plain → ℕ → Option Act → Type 0
AreCall k q None = Unit {0}
AreCall k q (Some a) = IsCall k q a

call_not_end : (finished : Option Reply) → is_end (what_of finished) ≡ false
call_not_end None = refl
call_not_end (Some reply) = refl

call_lines : (k : Plain) (x : Entry) (finished : Option Reply) → lines_of_entry k x (what_of finished) ≡ directive_line k.scenario x ∷ []
call_lines k x None = refl
call_lines k x (Some reply) = refl

of_processor : (k : Plain) (q : ℕ) (o : Option ℕ) → cpu_count k ≤ 8 → caller k q ≡ o → AreCall k q (act_of k q o)
of_processor k q None few is = tt
of_processor k q (Some t) few is = record {
  processor = omega (arith, within_caller k q t is, few);
  seat = refl;
  goes_on = call_not_end (thread_at k t).finished;
  lines = call_lines k _ (thread_at k t).finished;
}

-- what a processor does is a call, or a return
pub processor_calls : (k : Plain) (q : ℕ) (a : Act) → cpu_count k ≤ 8 → q ≢ 8 → act k q ≡ Some a → IsCall k q a
processor_calls k q a few other did =
    let test : eqb q 8 ≡ false = grind (arith, nat_tests, other) in
    let o : act_of k q (caller k q) ≡ Some a = rw test at did in
    subst (AreCall k q) o (of_processor k q (caller k q) few refl)

-- the clock ticks or ends the run
abbrev pub TicksOrEnds : Plain → Act → Type 0
TicksOrEnds k a = (a.entry ≡ clock_entry Tick) ⊎ ((a.entry ≡ clock_entry End) × (a.next ≡ k) × (least k ≡ None))

abbrev AreTicks : Plain → Option Act → Type 0
AreTicks k None = Unit {0}
AreTicks k (Some a) = TicksOrEnds k a

at_clock : (k : Plain) → least k ≡ None → AreTicks k (clock_at k)
at_clock k e = by k (ltb k.present k.scenario.horizon) (eqb k.present k.scenario.horizon) e where
  by : (k : Plain) (b d : Bool) → least k ≡ None → AreTicks k (cond b (Some (let a : Act = record { entry = clock_entry Tick; next = tick k } in a)) (cond d (Some (let a : Act = record { entry = clock_entry End; next = k } in a)) None))
  by k true d e = inl refl
  by k false true e = inr (refl, refl, e)
  by k false false e = tt

of_clock : (k : Plain) (o : Option ℕ) → least k ≡ o → AreTicks k (cond (is_none o) (clock_at k) None)
of_clock k (Some p) e = tt
of_clock k None e = at_clock k e

pub clock_acts : (k : Plain) (a : Act) → act k 8 ≡ Some a → TicksOrEnds k a
clock_acts k a did = subst (AreTicks k) did (of_clock k (least k) refl)
