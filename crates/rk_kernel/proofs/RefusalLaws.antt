-- A directive that refuses changes the caller alone.
use Rattle.std.proofs.Common.{◌≡◌, ℕ, zero, suc, ◌+◌, Bool, true, false, cond, eqb, ltb, ◌&&◌, Option, Some, None, length, refl, ap, sym, ◌∙◌, subst}
use Rattle.std.specs.Option.{option_to_list}
use Rattle.std.proofs.lemmas.Bool.{false≢true}
use Rattle.rk_model.specs.declared.entry.Reply.{Reply}
use Rattle.rk_model.specs.declared.entry.What.TheVariants.{Tick, End}
use Rattle.rk_model.specs.declared.state.Thread.{Thread}
use Rattle.rk_model.specs.Status.{status_code}
use Rattle.rk_model.specs.State.{Plain, no_thread, thread_at, put_thread}
use Rattle.rk_model.specs.Scheduling.Priorities.{standing, standings, standings_from}
use Rattle.rk_model.specs.Scheduling.Running.{caller, is_quiet}
use Rattle.rk_model.specs.Scheduling.Settling.{settle}
use Rattle.rk_model.specs.Directives.Outcomes.{Outcome, Refused, Done, Waiting, Gone, answer_of, status_of, last_of, go_on, after_outcome}
use Rattle.rk_model.specs.Steps.{Act, act, act_of, clock_of, clock_entry, action, action_on, what_of, directive}
use Rattle.rk_model.specs.Scheduling.Ticks.{tick}
use Rattle.rk_model.specs.Statistics.{is_call}
use Rattle.rk_directives.specs.Calls.{IsActing}
use Rattle.rk_directives.specs.Sound.{IsSound}
use Rattle.rk_directives.specs.Refusals.{is_refused}
use Rattle.rk_kernel.specs.SchedulingLaws.{is_refusal, refused_thread, RefusalsChangeTheCallerAlone}
use Rattle.rk_model.proofs.IndexLemmas.{nth-with_kept, length-with_nth}
use Rattle.rk_kernel.proofs.BearingLemmas.{put_alike, standings_alike}
use Rattle.rk_kernel.proofs.CallerLemmas.{acting_of}
use Rattle.rk_directives.proofs.DirectiveLemmas.ActionLemmas.{op_fair}
use Rattle.rk_directives.proofs.OutcomeLemmas.{op_of, IsFair}
use Rattle.rk_kernel.specs.Manned.{AreManned}
use Rattle.rk_kernel.proofs.RunnerLaws.{manned_after}
use Rattle.rk_kernel.proofs.StillSettlingLemmas.{settled_still}

no_refusal : {X : Type 0} → false ≡ true → X
no_refusal h = absurd (false≢true h)

-- what has the status of a refusal has the form of one, as far as it is fair
refuses : (k : Plain) (t : ℕ) (o : Outcome) → IsFair k t o → is_refused (op_of k t) (status_code (status_of (answer_of o))) ≡ true → (after_outcome k t o ≡ go_on k t 0) × (last_of (answer_of o) ≡ None)
refuses k t (Refused status) fair h = (refl, refl)
refuses k t (Done status out next last) fair h = no_refusal (sym fair.does.0 ∙ h)
refuses k t (Waiting next) fair h = no_refusal h
refuses k t (Gone status next) fair h = no_refusal (sym fair.does.0 ∙ h)

-- a caller that has gone on, settled
settled_alone : (k : Plain) (t : ℕ) (o : Outcome) → IsSound k → AreManned k → after_outcome k t o ≡ go_on k t 0 → last_of (answer_of o) ≡ None → settle k (after_outcome k t o) (option_to_list (last_of (answer_of o))) ≡ go_on k t 0
settled_alone k t o sound manned next last =
    ap (λ (n : Plain). settle k n (option_to_list (last_of (answer_of o)))) next ∙ ap (λ (l : Option ℕ). settle k (go_on k t 0) (option_to_list l)) last
    ∙ settled_still k (go_on k t 0) sound manned refl (standings_alike k (go_on k t 0) (put_alike k t (refused_thread k.scenario (thread_at k t)) refl))

-- of each act that is a refusal
abbrev AllRefusals : Plain → Option Act → Type 0
AllRefusals k None = Unit {0}
AllRefusals k (Some a) = is_refusal k.scenario a.entry ≡ true → a.next ≡ put_thread k a.entry.task (refused_thread k.scenario (thread_at k a.entry.task))

of_call : (k : Plain) (t : ℕ) (finished : Option Reply) → (thread_at k t).finished ≡ finished → IsActing k t → AreManned k → (is_call (what_of finished) && is_refused (op_of k t) (status_code (status_of (answer_of (action_on k t finished))))) ≡ true →
    settle k (after_outcome k t (action_on k t finished)) (option_to_list (last_of (answer_of (action_on k t finished)))) ≡ put_thread k t (refused_thread k.scenario (thread_at k t))
of_call k t (Some reply) e acts manned h = no_refusal h
of_call k t None e acts manned h =
    let o = op_of k t in
    let r = refuses k t (directive k t o) (op_fair k t acts e o refl) h in
    settled_alone k t (directive k t o) acts.sound manned r.0 r.1

of_processor : (k : Plain) (p : ℕ) (o : Option ℕ) → caller k p ≡ o → IsSound k → AreManned k → AllRefusals k (act_of k p o)
unfolding action
of_processor k p None is sound manned = tt
of_processor k p (Some t) is sound manned = λ h. of_call k t (thread_at k t).finished refl (acting_of k p t sound is) manned h

of_clock : (k : Plain) → AllRefusals k (clock_of k)
of_clock k = by (is_quiet k) (ltb k.present k.scenario.horizon) (eqb k.present k.scenario.horizon) where
  by : (quiet b d : Bool) → AllRefusals k (cond quiet (cond b (Some (let a : Act = record { entry = clock_entry Tick; next = tick k } in a)) (cond d (Some (let a : Act = record { entry = clock_entry End; next = k } in a)) None)) None)
  by true true d = λ h. no_refusal h
  by true false true = λ h. no_refusal h
  by true false false = tt
  by false b d = tt

of_seat : (k : Plain) (q : ℕ) → IsSound k → AreManned k → AllRefusals k (act k q)
of_seat k q sound manned = by (eqb q 8) where
  by : (b : Bool) → AllRefusals k (cond b (clock_of k) (act_of k q (caller k q)))
  by true = of_clock k
  by false = of_processor k q (caller k q) refl sound manned

-- What a seat does that is a refusal changes the caller alone.
pub refusal_alone : (k : Plain) (q : ℕ) (a : Act) → IsSound k → AreManned k → act k q ≡ Some a → is_refusal k.scenario a.entry ≡ true → a.next ≡ put_thread k a.entry.task (refused_thread k.scenario (thread_at k a.entry.task))
refusal_alone k q a sound manned did refusal = subst (AllRefusals k) did (of_seat k q sound manned) refusal

pub refusals_alone : RefusalsChangeTheCallerAlone
refusals_alone s xs is legal p a did refusal =
    let both = manned_after s xs is in
    refusal_alone _ p a both.0 both.1 did refusal
