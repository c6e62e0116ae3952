-- Each state that a history of a scenario leads to is sound, and has what settling and the passing of a tick keep.
use Rattle.std.proofs.Common.{◌≡◌, ℕ, zero, suc, ◌+◌, ◌<◌, ◌≤◌, List, [], ◌∷◌, Bool, true, false, cond, eqb, ltb, Option, None, Some, length, arith, refl, subst, ◌∙◌}
use Rattle.std.proofs.lemmas.Bool.Decides.{nat_tests}
use Rattle.rk_model.specs.declared.scenario.Scenario.{Scenario}
use Rattle.rk_model.specs.declared.entry.Entry.{Entry}
use Rattle.rk_model.specs.declared.entry.What.TheVariants.{Tick, End}
use Rattle.rk_model.specs.declared.state.Armed.{Armed}
use Rattle.rk_model.specs.State.{Plain}
use Rattle.rk_model.specs.Scheduling.Settling.{settle}
use Rattle.rk_model.specs.Scheduling.Running.{caller, is_quiet}
use Rattle.rk_model.specs.Scheduling.Ticks.{pass, expire, fire, fire_each, fire_cluster, fire_from, tick}
use Rattle.rk_model.specs.Steps.{Act, action, act_of, clock_at, clock_of, clock_entry, act}
use Rattle.rk_model.specs.Histories.{vacant, started, opening, next_of, next_by, after_from, after, Legal}
use Rattle.rk_model.specs.Limits.{IsWithinLimits}
use Rattle.rk_model.specs.Text.Scenarios.{IsScenario}
use Rattle.rk_model.proofs.LimitLemmas.{limits_of}
use Rattle.rk_parts.specs.Firing.{due_now}
use Rattle.rk_directives.specs.Sound.{IsSound, IsGentle, CanSettle}
use Rattle.rk_kernel.proofs.CallerLemmas.{acting_of}
use Rattle.rk_directives.proofs.DirectiveLemmas.ActionLemmas.{action_done}
use Rattle.std.specs.Option.{option_to_list}
use Rattle.rk_model.specs.Directives.Outcomes.{answer_of, after_outcome, last_of}
use Rattle.rk_kernel.proofs.SoundSettlingLemmas.{sound_settled, length-kept, length-settled}
use Rattle.rk_kernel.proofs.TickLemmas.{sound_pass}
use Rattle.rk_kernel.proofs.FiringLemmas.{expire_settles, due_now-fire}
use Rattle.rk_kernel.proofs.OpeningLemmas.{sound_vacant, started_settles}

-- What each settling after a gentle change of a sound state keeps, and each passing of a tick.
pub record IsKept (P : Plain → Type 0) : Type 0 where
  pub settled : (k next : Plain) (last : List ℕ) → IsSound k → IsGentle k next → P k → P (settle k next last)
  pub passed : (k : Plain) → IsSound k → P k → P (pass k)

-- the state is sound, and it has this
abbrev pub Both : (Plain → Type 0) → Plain → Type 0
Both P k = IsSound k × P k

both_settled : (P : Plain → Type 0) → IsKept P → (k next : Plain) (last : List ℕ) → CanSettle k next → Both P k → Both P (settle k next last)
both_settled P kept k next last can both = (sound_settled k next last both.0 can, kept.settled k next last both.0 can.gentle both.1)

count-settled : (k next : Plain) (last : List ℕ) → IsGentle k next → length (settle k next last).clusters ≡ length k.clusters
count-settled k next last gentle = length-settled k next last ∙ length-kept k.clusters next.clusters gentle.lines

-- the timers of a cluster that are due fire, and there are as many clusters then
both_each : (P : Plain → Type 0) → IsKept P → (k : Plain) (c : ℕ) (timers : List Armed) → due_now k c ≡ timers → c < length k.clusters → Both P k → Both P (fire_each k c timers) × (length (fire_each k c timers).clusters ≡ length k.clusters)
both_each P kept k c [] due within both = (both, refl)
both_each P kept k c (x ∷ xs) due within both =
    let can = expire_settles k c xs x both.0 within due in
    let same = count-settled k (expire k c x.who) [] can.gentle in
    let more = both_each P kept (fire k c x) c xs (due_now-fire k c xs x both.0 within due) (rw same within) (both_settled P kept k (expire k c x.who) [] can both) in
    (more.0, more.1 ∙ same)

both_from : (P : Plain → Type 0) → IsKept P → (k : Plain) (c n : ℕ) → c + n ≤ length k.clusters → Both P k → Both P (fire_from k c n)
both_from P kept k c zero few both = both
both_from P kept k c (suc n) few both =
    let more = both_each P kept k c (due_now k c) refl (omega arith) both in
    let rest : c + 1 + n ≤ length k.clusters = omega arith in
    both_from P kept (fire_cluster k c) (c + 1) n (rw more.1 rest) more.0

both_tick : (P : Plain → Type 0) → IsKept P → (k : Plain) → k.present < k.scenario.horizon → Both P k → Both P (tick k)
both_tick P kept k below both = both_from P kept (pass k) 0 (length k.clusters) (omega arith) (sound_pass k both.0 below, kept.passed k both.0 both.1)

-- what a seat does leads to such a state
abbrev AllNext : (Plain → Type 0) → Option Act → Type 0
AllNext P None = Unit {0}
AllNext P (Some a) = P a.next

of_processor : (P : Plain → Type 0) → IsKept P → (k : Plain) (p : ℕ) (o : Option ℕ) → caller k p ≡ o → Both P k → AllNext (Both P) (act_of k p o)
of_processor P kept k p None is both = tt
of_processor P kept k p (Some t) is both =
    both_settled P kept k (after_outcome k t (action k t)) (option_to_list (last_of (answer_of (action k t)))) (action_done k t (acting_of k p t both.0 is)).after both

at_clock : (P : Plain → Type 0) → IsKept P → (k : Plain) → Both P k → AllNext (Both P) (clock_at k)
at_clock P kept k both = by P kept k (ltb k.present k.scenario.horizon) (eqb k.present k.scenario.horizon) refl both where
  by : (P : Plain → Type 0) → IsKept P → (k : Plain) (b d : Bool) → ltb k.present k.scenario.horizon ≡ b → Both P k →
      AllNext (Both P) (cond b (Some (let a : Act = record { entry = clock_entry Tick; next = tick k } in a)) (cond d (Some (let a : Act = record { entry = clock_entry End; next = k } in a)) None))
  by P kept k true d e both = both_tick P kept k (grind (arith, nat_tests, e)) both
  by P kept k false true e both = both
  by P kept k false false e both = tt

of_clock : (P : Plain → Type 0) → IsKept P → (k : Plain) → Both P k → AllNext (Both P) (clock_of k)
of_clock P kept k both = by P kept k (is_quiet k) both where
  by : (P : Plain → Type 0) → IsKept P → (k : Plain) (b : Bool) → Both P k → AllNext (Both P) (cond b (clock_at k) None)
  by P kept k true both = at_clock P kept k both
  by P kept k false both = tt

both_act : (P : Plain → Type 0) → IsKept P → (k : Plain) (q : ℕ) → Both P k → AllNext (Both P) (act k q)
both_act P kept k q both = by P kept k q (eqb q 8) both where
  by : (P : Plain → Type 0) → IsKept P → (k : Plain) (q : ℕ) (b : Bool) → Both P k → AllNext (Both P) (cond b (clock_of k) (act_of k q (caller k q)))
  by P kept k q true both = of_clock P kept k both
  by P kept k q false both = of_processor P kept k q (caller k q) refl both

-- to ask nothing more is kept
kept_alone : IsKept (λ k. Unit {0})
kept_alone = record { settled = λ _ _ _ _ _ _. tt; passed = λ _ _ _. tt }

-- what is kept holds after what a seat does
pub kept_act : (P : Plain → Type 0) → IsKept P → (k : Plain) (q : ℕ) (a : Act) → Both P k → act k q ≡ Some a → Both P a.next
kept_act P kept k q a both did = subst (AllNext (Both P)) did (both_act P kept k q both)

-- a sound state is sound after what a seat does
pub sound_act : (k : Plain) (q : ℕ) (a : Act) → IsSound k → act k q ≡ Some a → IsSound a.next
sound_act k q a sound did = (kept_act (λ k. Unit {0}) kept_alone k q a (sound, tt) did).0

both_next : (P : Plain → Type 0) (k : Plain) (o : Option Act) → Both P k → AllNext (Both P) o → Both P (next_of k o)
both_next P k None both all = both
both_next P k (Some a) both all = all

both_after : (P : Plain → Type 0) → IsKept P → (k : Plain) (xs : List Entry) → Both P k → Both P (after_from k xs)
both_after P kept k [] both = both
both_after P kept k (x ∷ xs) both = both_after P kept (next_by k x) xs (both_next P k (act k x.seat) both (both_act P kept k x.seat both))

-- and at opening, where it holds where there is no task yet
pub kept_opening : (P : Plain → Type 0) → IsKept P → (s : Scenario) → IsWithinLimits s → P (vacant s) → Both P (opening s)
kept_opening P kept s within begins = both_settled P kept (vacant s) (started s) [] (started_settles s within) (sound_vacant s within, begins)

-- What is kept, and holds where there is no task yet, holds after each history.
pub kept_after : (P : Plain → Type 0) → IsKept P → (s : Scenario) (xs : List Entry) → IsScenario s → P (vacant s) → Both P (after s xs)
kept_after P kept s xs is begins =
    both_after P kept (opening s) xs (kept_opening P kept s (limits_of s is) begins)

-- Each state that a legal history leads to is sound.
pub sound_after : (s : Scenario) (xs : List Entry) → IsScenario s → Legal s xs → IsSound (after s xs)
sound_after s xs is legal = (kept_after (λ k. Unit {0}) kept_alone s xs is tt).0
