-- A step of the kernel against the definitions.
use Rattle.std.specs.Prelude.{ℕ, ◌≡◌, Some, None}
use Rattle.rk_model.specs.declared.entry.What.TheVariants.{Tick, End}
use Rattle.rk_model.specs.State.{Plain}
use Rattle.rk_model.specs.Scheduling.Running.{running, caller, least, why_of}
use Rattle.rk_model.specs.Steps.{act, clock_entry}
use Rattle.rk_kernel.specs.declared.steps.CoreStep.{CoreStep}
use Rattle.rk_kernel.specs.declared.steps.CoreStep.TheVariants.{Did, Nothing}
use Rattle.rk_kernel.specs.declared.steps.CoreTick.{CoreTick}
use Rattle.rk_kernel.specs.declared.steps.CoreTick.TheVariants.{Ticked, Ended, NotYet}

-- The processor did what the definition of a step says, with that entry; or it has no directive for this reason, and nothing changed.
abbrev pub IsStep : Plain → ℕ → CoreStep → Plain → Type 0
IsStep old p (Did x) new = act old p ≡ Some (record { entry = x; next = new })
IsStep old p (Nothing why) new = (caller old p ≡ None) × (why ≡ why_of (running old p)) × (new ≡ old)

-- The clock ticked; or it ended the run, and the state stays; or this is the lowest-numbered processor that has a directive, and nothing changed.
abbrev pub IsTick : Plain → CoreTick → Plain → Type 0
IsTick old Ticked new = act old 8 ≡ Some (record { entry = clock_entry Tick; next = new })
IsTick old Ended new = (act old 8 ≡ Some (record { entry = clock_entry End; next = old })) × (new ≡ old)
IsTick old (NotYet p) new = (least old ≡ Some p) × (new ≡ old)
