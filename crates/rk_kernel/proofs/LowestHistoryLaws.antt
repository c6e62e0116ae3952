-- The history in which the least processor always acts goes on up to its end.
use Rattle.std.proofs.Common.{◌≡◌, ◌⊎◌, inl, inr, ℕ, zero, suc, ◌+◌, ◌<◌, ◌≤◌, List, [], Bool, true, false, cond, eqb, ltb, Option, Some, None, length, unwrap_or, arith, refl, sym, ◌∙◌}
use Rattle.std.proofs.lemmas.Bool.Decides.{nat_tests}
use Rattle.rk_model.specs.declared.scenario.Scenario.{Scenario}
use Rattle.rk_model.specs.declared.entry.Entry.{Entry}
use Rattle.rk_model.specs.declared.entry.What.TheVariants.{Tick, End}
use Rattle.rk_model.specs.State.{Plain}
use Rattle.rk_model.specs.Scheduling.Running.{caller, first_of, least_from, least}
use Rattle.rk_model.specs.Scheduling.Seats.{cpu_count}
use Rattle.rk_model.specs.Scheduling.Ticks.{tick}
use Rattle.rk_model.specs.Steps.{Act, act, act_of, clock_at, clock_entry}
use Rattle.rk_model.specs.Histories.{opening, is_end, ends, turn, lowest_on, lowest_from, lowest}
use Rattle.rk_model.specs.Text.Scenarios.{IsScenario}
use Rattle.rk_model.proofs.LegalityLemmas.{ends_from, ends_is}
use Rattle.rk_model.proofs.LimitLemmas.{limits_of}
use Rattle.rk_kernel.specs.SchedulingLaws.{LowestGoesOn}
use Rattle.rk_directives.specs.Sound.{IsSound}
use Rattle.rk_kernel.proofs.OpeningLemmas.{sound_opening}
use Rattle.rk_kernel.proofs.HistoryLemmas.{sound_act}

-- ---- in each state the seat whose turn it is does something

-- what a seat does
abbrev Goes : Option Act → Type 0
Goes acted = (a : Act) × (acted ≡ Some a)

-- the clock of a quiet kernel ticks, or ends the run at the horizon
clock_goes : (k : Plain) → k.present ≤ k.scenario.horizon → Goes (clock_at k)
clock_goes k within = by k (ltb k.present k.scenario.horizon) (eqb k.present k.scenario.horizon) refl refl within where
  by : (k : Plain) (b d : Bool) → ltb k.present k.scenario.horizon ≡ b → eqb k.present k.scenario.horizon ≡ d → k.present ≤ k.scenario.horizon →
      Goes (cond b (Some (let a : Act = record { entry = clock_entry Tick; next = tick k } in a)) (cond d (Some (let a : Act = record { entry = clock_entry End; next = k } in a)) None))
  by k true d e f within = (_, refl)
  by k false true e f within = (_, refl)
  by k false false e f within = absurd (grind (arith, nat_tests, e, f, within))

caller_goes : (k : Plain) (p t : ℕ) → Goes (act_of k p (Some t))
caller_goes k p t = (_, refl)

-- a processor that was found has a thread with a directive
abbrev Found : Plain → ℕ → Option ℕ → Type 0
Found k most None = Unit {0}
Found k most (Some p) = (t : ℕ) × (caller k p ≡ Some t) × (p < most)

found_first : (k : Plain) (p most : ℕ) (calls : Option ℕ) (other : Option ℕ) → caller k p ≡ calls → p < most → Found k most other → Found k most (first_of calls p other)
found_first k p most None other e below found = found
found_first k p most (Some t) other e below found = (t, e, below)

least_found : (k : Plain) (p n : ℕ) → Found k (p + n) (least_from k p n)
least_found k p zero = tt
least_found k p (suc n) =
    let e : p + suc n ≡ p + 1 + n = omega arith in
    let rest : Found k (p + suc n) (least_from k (p + 1) n) = rw e (least_found k (p + 1) n) in
    found_first k p (p + suc n) (caller k p) (least_from k (p + 1) n) refl (omega arith) rest

turn_goes : (k : Plain) (first : Option ℕ) → least k ≡ first → Found k (cpu_count k) first → cpu_count k ≤ 8 → k.present ≤ k.scenario.horizon → Goes (act k (unwrap_or first 8))
turn_goes k None e found few within = rw e (clock_goes k within)
turn_goes k (Some p) e found few within =
    let other : eqb p 8 ≡ false = grind (arith, nat_tests, found.2, few) in
    rw (other, found.1) (caller_goes k p found.0)

goes : (k : Plain) → IsSound k → Goes (act k (turn k))
goes k sound = turn_goes k (least k) refl (let e : 0 + cpu_count k ≡ cpu_count k = omega arith in rw e at (least_found k 0 (cpu_count k))) sound.few_cpus sound.present

-- ---- the length of a history

cut_behind : (b : Bool) (rest : List Entry) (n : ℕ) → (ends_from b rest ≡ false → length rest ≡ n) → ends_from b (cond b [] rest) ≡ false → length (cond b [] rest) ≡ n
cut_behind true rest n cut unended = absurd cc
cut_behind false rest n cut unended = cut unended

cut_from : (n : ℕ) (k : Plain) (before : Bool) → IsSound k → ends_from before (lowest_from n k) ≡ false → length (lowest_from n k) ≡ n
cut_from zero k before sound unended = refl
cut_from (suc n) k before sound unended =
    let step = goes k sound in
    let unended' : ends_from before (lowest_on (lowest_from n) (Some step.0)) ≡ false = rw step.1 at unended in
    let rest = cut_behind (is_end step.0.entry.what) (lowest_from n step.0.next) n (cut_from n step.0.next (is_end step.0.entry.what) (sound_act k (turn k) step.0 sound step.1)) unended' in
    rw step.1 (omega (arith, rest))

-- a history that always the lowest-numbered processor that has a directive made, and that was cut, has as many entries as it may have
pub cut_lowest : (s : Scenario) (n : ℕ) → IsScenario s → ends (lowest s n) ≡ false → length (lowest s n) ≡ n
cut_lowest s n known unended = cut_from n (opening s) false (sound_opening s (limits_of s known)) (sym (ends_is (lowest s n)) ∙ unended)

-- it ends with End, or has as many entries as it may have
pub lowest_goes : LowestGoesOn
lowest_goes s n known = by (ends (lowest s n)) refl where
  by : (b : Bool) → ends (lowest s n) ≡ b → (ends (lowest s n) ≡ true) ⊎ (length (lowest s n) ≡ n)
  by true e = inl e
  by false e = inr (cut_lowest s n known e)
