-- What seats do that have nothing to do.
use Rattle.std.proofs.Common.{◌≡◌, ℕ, ◌<◌, ◌≤◌, false, eqb, Some, None, arith, refl}
use Rattle.std.proofs.lemmas.Bool.Decides.{nat_tests}
use Rattle.rk_model.specs.State.{Plain}
use Rattle.rk_model.specs.Scheduling.Running.{caller, least}
use Rattle.rk_model.specs.Scheduling.Seats.{cpu_count}
use Rattle.rk_model.specs.Steps.{act}
use Rattle.rk_schedule.proofs.NamedLemmas.{past_caller}

pub idle_act : (k : Plain) (p : ℕ) → p < 8 → caller k p ≡ None → act k p ≡ None
idle_act k p few none =
    let test : eqb p 8 ≡ false = grind (arith, nat_tests, few) in
    rw (test, none) refl

pub past_act : (k : Plain) (p : ℕ) → p < 8 → cpu_count k ≤ p → act k p ≡ None
past_act k p few past = idle_act k p few (past_caller k p past)

-- the clock does nothing where a processor has a directive
pub busy_clock : (k : Plain) (p : ℕ) → least k ≡ Some p → act k 8 ≡ None
busy_clock k p busy = rw busy refl
