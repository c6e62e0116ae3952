use Rattle.std.proofs.Common.{length}
use Rattle.rk_journal.proofs.appending.+renew.Given as goal

abbrev pub decreases-renew : goal.decreases-renew
decreases-renew l = length l.slots.now
