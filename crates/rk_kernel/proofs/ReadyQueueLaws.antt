-- The ready queue of each cluster holds its eligible threads, each once.
use Rattle.std.proofs.Common.{◌∙◌}
use Rattle.rk_model.specs.State.{Plain}
use Rattle.rk_directives.specs.Sound.{IsSound}
use Rattle.rk_kernel.specs.SchedulingLaws.{LinesHoldTheirOwn, HoldsItsOwn}
use Rattle.rk_kernel.proofs.ReadyQueueLemmas.{own_once, sound_at}
use Rattle.rk_kernel.proofs.HistoryLemmas.{sound_after}

holds_own : (k : Plain) → IsSound k → HoldsItsOwn k
holds_own k sound c t within = (sound_at k c sound within).line t ∙ own_once k c t

pub lines_hold : LinesHoldTheirOwn
lines_hold s xs is legal = holds_own _ (sound_after s xs is legal)
