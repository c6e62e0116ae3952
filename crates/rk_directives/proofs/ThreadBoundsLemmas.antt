-- The bounds of threads.
use Rattle.std.proofs.Common.{◌≡◌, ℕ, zero, suc, ◌<◌, ◌≤◌, List, [], ◌∷◌, Bool, true, false, Option, None, Some, length, IsSome, ⊎_elim, arith, refl, ap}
use Rattle.std.specs.List.{slice_get, AllByRecursion}
use Rattle.std.proofs.lemmas.List.{get_or_past}
use Rattle.std.proofs.lemmas.Bool.{cases_lt, false≢true}
use Rattle.rk_model.specs.declared.scenario.Scenario.{Scenario}
use Rattle.rk_model.specs.declared.scenario.Body.{Body}
use Rattle.rk_model.specs.declared.scenario.Op.{Op}
use Rattle.rk_model.specs.Directives.Lines.{Kind, Computes, Leads, Acts, kind_at, landed_by, work_of, is_place, is_act}
use Rattle.rk_model.specs.Limits.{GoesOnBy, AreRunnable}
use Rattle.rk_model.specs.Text.Scenarios.{may_be_target, is_target}
use Rattle.rk_model.proofs.LimitLemmas.{target_within}
use Rattle.rk_model.specs.declared.state.Life.{Life}
use Rattle.rk_model.specs.declared.state.Life.TheVariants.{Absent}
use Rattle.rk_model.specs.declared.state.Thread.{Thread}
use Rattle.rk_model.specs.State.{Plain, no_thread, thread_at, op_at, op_in}
use Rattle.rk_model.specs.Directives.Outcomes.{landing, arrived, work_at}
use Rattle.rk_model.proofs.BodyLemmas.{lines_in, goes_in, few_lines}
use Rattle.rk_directives.specs.Sound.{IsSound, IsInBounds, IsGentleBut, has_action, is_in_call}

first_acts : (o : Option Body) → has_action (op_in o 0) ≡ true
first_acts None = refl
first_acts (Some body) = refl

-- the bounds of a thread of which there is no more than its life, its home and its base priority
pub blank_bounds : (s : Scenario) (n p : ℕ) (life : Life) (home base : ℕ) → home < n → IsInBounds s n p (record no_thread { life = life; home = home; base = base })
blank_bounds s n p life home base within = record { home = within; line = omega arith; working = λ w. omega arith; calling = λ w. absurd (false≢true w); apart = λ w. refl; acts = λ _. first_acts (slice_get s.bodies 0); idle = λ _. refl; computed = omega arith }

-- the bounds of what stands where there is no thread
pub none_bounds : (s : Scenario) (n p : ℕ) → 0 < n → IsInBounds s n p no_thread
none_bounds s n p some = blank_bounds s n p Absent 0 255 some

-- the bounds of a thread that is looked up
pub bounds_at : (k : Plain) (t : ℕ) → IsSound k → IsInBounds k.scenario (length k.clusters) k.present (thread_at k t)
bounds_at k zero sound = none_bounds k.scenario (length k.clusters) k.present sound.some_cluster
bounds_at k (suc i) sound =
    let P : Thread → Type 0 = IsInBounds k.scenario (length k.clusters) k.present in
    ⊎_elim (λ h. sound.threads i no_thread h) (λ h. rw (get_or_past k.threads i no_thread h) (none_bounds k.scenario (length k.clusters) k.present sound.some_cluster)) (cases_lt i (length k.threads))

-- the same after a gentle change
pub bounds_in : (k m : Plain) (but : ℕ → Bool) (t : ℕ) → IsSound k → IsGentleBut k m but → IsInBounds k.scenario (length k.clusters) k.present (thread_at m t)
bounds_in k m but zero sound gentle = none_bounds k.scenario (length k.clusters) k.present sound.some_cluster
bounds_in k m but (suc i) sound gentle =
    ⊎_elim (λ h. gentle.threads i no_thread h) (λ h. rw (get_or_past m.threads i no_thread h) (none_bounds k.scenario (length k.clusters) k.present sound.some_cluster)) (cases_lt i (length m.threads))

op_within : (ops : List Op) (i : ℕ) → IsSome (slice_get ops i) → i < length ops
op_within [] i h = absurd (false≢true h)
op_within (op ∷ ops) zero h = omega arith
op_within (op ∷ ops) (suc i) h = omega (arith, op_within ops i h)

-- a line of a body is at most the 1,000th
pub line_in : (bodies : List Body) (b line : ℕ) → AllByRecursion (λ (body : Body). length body.lines ≤ 1000) bodies → IsSome (op_in (slice_get bodies b) line) → line ≤ 1000
line_in [] b line short h = absurd (false≢true h)
line_in (body ∷ bodies) zero zero short h = omega arith
line_in (body ∷ bodies) zero (suc i) short h = omega (arith, op_within body.lines i h, short.0)
line_in (body ∷ bodies) (suc b) line short h = line_in bodies b line short.1 h

some_work : (o : Option Op) → 0 < work_at o → IsSome o
some_work None h = absurd (never h) where
  never : 0 < 0 → ⊥
  never w = omega (arith, w)
some_work (Some op) h = refl

landed_within : (lines : List Op) (kind : Kind) (line : ℕ) → length lines ≤ 1000 → GoesOnBy lines kind → line ≤ 1001 → landed_by kind line ≤ 1001
landed_within lines (Computes n) line few goes low = low
landed_within lines (Leads target) line few goes low = let within = target_within lines target goes in omega (arith, within.1, few)
landed_within lines Acts line few goes low = low

-- a thread that would arrive at a line is then at most behind the 1,000th
pub landing_within : (s : Scenario) (b line : ℕ) → AreRunnable s.bodies → line ≤ 1001 → landing s b line ≤ 1001
unfolding landing
landing_within s b line runs low = landed_within (lines_in (slice_get s.bodies b)) (kind_at (op_at s b line)) line (few_lines s.bodies b runs) (goes_in s.bodies b line runs) low

target_stands : (o : Option Body) (n : ℕ) → is_target (lines_in o) n ≡ true → may_be_target (op_in o n) ≡ true
target_stands None zero is = absurd (false≢true is)
target_stands None (suc i) is = absurd (false≢true is)
target_stands (Some body) zero is = absurd (false≢true is)
target_stands (Some body) (suc i) is = is

target_is_place : (o : Option Op) → may_be_target o ≡ true → is_place (kind_at o) ≡ true
target_is_place None is = refl
target_is_place (Some op) is = is

acts_here : (lines : List Op) (kind : Kind) → is_place kind ≡ true → GoesOnBy lines kind → work_of kind ≡ 0 → is_act kind ≡ true
acts_here lines (Computes n) is goes none = absurd (omega (arith, goes, none))
acts_here lines (Leads target) is goes none = absurd (false≢true is)
acts_here lines Acts is goes none = refl

-- where a thread lands there is an action, or work
acts_landed : (s : Scenario) (b line : ℕ) (kind : Kind) → AreRunnable s.bodies → kind_at (op_at s b line) ≡ kind → GoesOnBy (lines_in (slice_get s.bodies b)) kind → work_at (op_at s b (landed_by kind line)) ≡ 0 → has_action (op_at s b (landed_by kind line)) ≡ true
acts_landed s b line (Computes n) runs e goes none = absurd (omega (arith, goes, none, ap work_of e))
acts_landed s b line (Leads target) runs e goes none =
    acts_here (lines_in (slice_get s.bodies b)) (kind_at (op_at s b target)) (target_is_place (op_at s b target) (target_stands (slice_get s.bodies b) target goes)) (goes_in s.bodies b target runs) none
acts_landed s b line Acts runs e goes none = ap is_act e

-- the same for a thread that has arrived there
acts_arrived : (s : Scenario) (b line : ℕ) → AreRunnable s.bodies → work_at (op_at s b (landing s b line)) ≡ 0 → has_action (op_at s b (landing s b line)) ≡ true
unfolding landing
acts_arrived s b line runs none = acts_landed s b line (kind_at (op_at s b line)) runs refl (goes_in s.bodies b line runs) none

-- a thread that is in no call and arrives at a line is within its bounds
pub arrived_bounds : (s : Scenario) (n p : ℕ) (thread : Thread) (line : ℕ) → AreRunnable s.bodies → thread.home < n → line ≤ 1001 → thread.computed ≤ p → is_in_call thread.wait thread.finished ≡ false → IsInBounds s n p (arrived s thread line)
arrived_bounds s n p thread line runs home low computed free = record {
  home = home;
  line = landing_within s thread.body line runs low;
  working = λ w. line_in s.bodies thread.body (landing s thread.body line) runs.short (some_work (op_at s thread.body (landing s thread.body line)) w);
  calling = λ w. absurd (false≢true (rw free at w));
  apart = λ w. free;
  acts = λ none. acts_arrived s thread.body line runs none;
  idle = λ _. free;
  computed = computed;
}
