use Rattle.std.proofs.Common.{arith}
use Rattle.rk_journal.proofs.JournalRuleLemmas.{appends_at}
use Rattle.rk_journal.proofs.steps.add_named.Goals as goal

pub fetch_add-requires : goal.fetch_add-requires
fetch_add-requires g c = let r = c.requires.token in (r.0, omega (arith, r.1), appends_at _ _ _ _ r.2 c.requires.room)
