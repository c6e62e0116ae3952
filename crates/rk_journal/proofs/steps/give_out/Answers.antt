use Rattle.std.proofs.Common.{arith}
use Rattle.rk_journal.proofs.JournalRuleLemmas.{splits_first}
use Rattle.rk_journal.proofs.steps.give_out.Goals as goal

pub split_seat-requires : goal.split_seat-requires
split_seat-requires c = let r = c.requires in (r.0, omega (arith, r.1), splits_first _ _)
