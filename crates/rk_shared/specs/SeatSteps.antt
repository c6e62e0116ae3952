-- What a step answers its seat, and what the seat has seen after it.
use Rattle.std.specs.Prelude.{ℕ, ◌≡◌, ◌==◌, ◌≤◌, nat_lt, List, [], ◌∷◌, ◌++◌, length, Option, Some, None, if◌then◌else◌}
use mathlib.Core.List.{IsPrefix}
use Rattle.rk_model.specs.declared.limits.TheConstants.{CLOCK}
use Rattle.rk_model.specs.declared.entry.Entry.{Entry}
use Rattle.rk_model.specs.declared.entry.View.{View}
use Rattle.rk_model.specs.declared.entry.What.TheVariants.{Tick, End}
use Rattle.rk_model.specs.declared.scenario.Scenario.{Scenario}
use Rattle.rk_model.specs.State.{Plain}
use Rattle.rk_model.specs.Scheduling.Running.{running, least, why_of}
use Rattle.rk_model.specs.Steps.{Act, act, clock_entry}
use Rattle.rk_model.specs.Histories.{Legal, after, ends, of}
use Rattle.rk_shared.specs.declared.answers.Stepped.{Stepped}
use Rattle.rk_shared.specs.declared.answers.Stepped.TheVariants as step
use Rattle.rk_shared.specs.declared.answers.TickAnswer.{TickAnswer}
use Rattle.rk_shared.specs.declared.answers.TickAnswer.TheVariants as tick

-- what a step answers a processor that does this, where its action is that or none
abbrev pub answer_of_step : View → Option Act → Stepped
answer_of_step view (Some a) = step.Did a.entry
answer_of_step view None = step.Nothing (why_of view)

-- What a step answers a processor at the history that it met: Over where that ends with End, else Full where it has as many entries as the limit, else what the processor does after it.
abbrev pub step_answer : Scenario → ℕ → List Entry → Stepped
step_answer s q met = if ends met then step.Over else (if length met == s.limit then step.Full else answer_of_step (running (after s met) q) (act (after s met) q))

-- what a step answers the clock, where this is the lowest-numbered processor that has a directive, if there is one
abbrev pub answer_of_clock : Plain → Option ℕ → TickAnswer
answer_of_clock k (Some p) = tick.NotYet p
answer_of_clock k None = if nat_lt k.present k.scenario.horizon then tick.Ticked else tick.Ended

-- What a step answers the clock at the history that it met.
abbrev pub tick_answer : Scenario → List Entry → TickAnswer
tick_answer s met = if ends met then tick.Over else (if length met == s.limit then tick.Full else answer_of_clock (after s met) (least (after s met)))

-- a history with a seat's action behind it, if it has one
abbrev pub with_act : List Entry → Option Act → List Entry
with_act met (Some a) = met ++ a.entry ∷ []
with_act met None = met

-- The front of a seat after its step at the history that it met.
abbrev pub seen_after : Scenario → ℕ → List Entry → List Entry
seen_after s q met = if ends met then met else (if length met == s.limit then met else with_act met (act (after s met) q))

-- the entries that a processor's step appended
abbrev pub appended_by_step : Stepped → List Entry
appended_by_step (step.Did x) = x ∷ []
appended_by_step (step.Nothing why) = []
appended_by_step step.Full = []
appended_by_step step.Over = []

-- the entries that the clock's step appended
abbrev pub appended_by_tick : TickAnswer → List Entry
appended_by_tick tick.Ticked = clock_entry Tick ∷ []
appended_by_tick tick.Ended = clock_entry End ∷ []
appended_by_tick (tick.NotYet p) = []
appended_by_tick tick.Full = []
appended_by_tick tick.Over = []

-- A seat's step that appended these entries. The seat meets a history that goes on from its old front without entries of the seat; its new front is that history with the seat's action behind it. The new front is legal and within the limit, and its entries of the seat are those of the old front and then those that the step appended.
pub record Steps (s : Scenario) (q : ℕ) (old met new appended : List Entry) : Type 0 where
  pub extends : IsPrefix old met
  pub own_before : of met q ≡ of old q
  pub front : new ≡ seen_after s q met
  pub grows : IsPrefix old new
  pub legal : Legal s new
  pub within : length new ≤ s.limit
  pub own : of new q ≡ of old q ++ appended

-- A processor's step.
pub record IsStepOf (s : Scenario) (q : ℕ) (old new : List Entry) (answer : Stepped) : Type 0 where
  pub met : List Entry
  pub steps : Steps s q old met new (appended_by_step answer)
  pub is : answer ≡ step_answer s q met

-- A step of the clock.
pub record IsTickOf (s : Scenario) (old new : List Entry) (answer : TickAnswer) : Type 0 where
  pub met : List Entry
  pub steps : Steps s CLOCK old met new (appended_by_tick answer)
  pub is : answer ≡ tick_answer s met

-- A seat met others: its new front is a legal history within the limit that goes on from its old front without entries of the seat.
pub record HasMet (s : Scenario) (q : ℕ) (old new : List Entry) : Type 0 where
  pub extends : IsPrefix old new
  pub own : of new q ≡ of old q
  pub legal : Legal s new
  pub within : length new ≤ s.limit
