use Rattle.rk_journal.proofs.JournalRuleLemmas.{begins}
use Rattle.rk_journal.proofs.journal.open_journal.Goals as goal

pub of_words-requires : goal.of_words-requires
of_words-requires c = begins
