-- What steps keep: the processors have their runners, and a refusal changes the caller alone.
use Rattle.std.proofs.Common.{◌≡◌, ℕ, ◌<◌, ◌==◌, false, Some, arith, ap, sym, subst}
use Rattle.std.specs.Option.{option_to_list}
use Rattle.std.proofs.lemmas.Bool.Decides.{nat_tests}
use Rattle.rk_model.specs.declared.entry.Entry.{Entry}
use Rattle.rk_model.specs.Scheduling.Running.{caller}
use Rattle.rk_model.specs.Scheduling.Settling.{settle}
use Rattle.rk_model.specs.Directives.Outcomes.{answer_of, after_outcome, last_of}
use Rattle.rk_model.specs.Steps.{Act, action, entry_of}
use Rattle.rk_model.specs.State.{Plain}
use Rattle.rk_kernel.specs.declared.steps.CoreStep.{CoreStep}
use Rattle.rk_kernel.specs.declared.steps.CoreStep.TheVariants.{Did, Nothing}
use Rattle.rk_kernel.specs.declared.steps.CoreTick.{CoreTick}
use Rattle.rk_kernel.specs.declared.steps.CoreTick.TheVariants.{Ticked, Ended, NotYet}
use Rattle.rk_directives.specs.Sound.{IsSound}
use Rattle.rk_kernel.specs.Manned.{AreManned}
use Rattle.rk_kernel.specs.Step.{IsStep, IsTick}
use Rattle.rk_kernel.specs.SchedulingLaws.{RefusesAlone}
use Rattle.rk_kernel.proofs.RunnerLaws.{manned_act}
use Rattle.rk_kernel.proofs.RefusalLaws.{refusal_alone}

pub step_manned : (k next : Plain) (p : ℕ) (step : CoreStep) → IsSound k → AreManned k → IsStep k p step next → AreManned next
step_manned k next p (Did x) sound manned is = manned_act k p _ sound manned is
step_manned k next p (Nothing why) sound manned is = subst AreManned (sym is.2) manned

pub tick_manned : (k next : Plain) (step : CoreTick) → IsSound k → AreManned k → IsTick k step next → AreManned next
tick_manned k next Ticked sound manned is = manned_act k 8 _ sound manned is
tick_manned k next Ended sound manned is = subst AreManned (sym is.1) manned
tick_manned k next (NotYet p) sound manned is = subst AreManned (sym is.1) manned

pub step_refused : (k next : Plain) (p : ℕ) (step : CoreStep) → IsSound k → AreManned k → IsStep k p step next → RefusesAlone step k next
step_refused k next p (Did x) sound manned is = refusal_alone k p _ sound manned is
step_refused k next p (Nothing why) sound manned is = tt

-- a processor did the action of its thread
pub did : (k next : Plain) (p t : ℕ) (x : Entry) → p < 8 → caller k p ≡ Some t → x ≡ entry_of k p t (answer_of (action k t)) → next ≡ settle k (after_outcome k t (action k t)) (option_to_list (last_of (answer_of (action k t)))) → IsStep k p (Did x) next
did k next p t x low calls is settled =
    let no_clock : (p == 8) ≡ false = grind (arith, nat_tests, low) in
    let same : (let a : Act = record { entry = x; next = next } in a) ≡ (let a : Act = record { entry = entry_of k p t (answer_of (action k t)); next = settle k (after_outcome k t (action k t)) (option_to_list (last_of (answer_of (action k t)))) } in a) = λ i. record { entry = is i; next = settled i } in
    rw (no_clock, calls) (ap (λ (a : Act). Some a) (sym same))
