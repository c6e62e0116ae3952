-- No directive acts for a line of work or a goto.
use Rattle.std.proofs.Common.{◌≡◌, ℕ, Some, None, true}
use Rattle.rk_model.specs.State.{Plain, thread_at, op_at}
use Rattle.rk_model.specs.Scheduling.Running.{caller}
use Rattle.rk_directives.specs.Sound.{IsSound, has_action}
use Rattle.rk_kernel.specs.SchedulingLaws.{NoneActsAtWork}
use Rattle.rk_directives.proofs.ThreadBoundsLemmas.{bounds_at}
use Rattle.rk_kernel.proofs.CallerLemmas.{caller_works_not}
use Rattle.rk_kernel.proofs.HistoryLemmas.{sound_after}

acts : (k : Plain) (p t : ℕ) → IsSound k → caller k p ≡ Some t → (thread_at k t).finished ≡ None → has_action (op_at k.scenario (thread_at k t).body (thread_at k t).line) ≡ true
acts k p t sound is none = (bounds_at k t sound).acts (caller_works_not k p t is)

pub none_acts : NoneActsAtWork
none_acts s xs is legal p t calls none = acts _ p t (sound_after s xs is legal) calls none
