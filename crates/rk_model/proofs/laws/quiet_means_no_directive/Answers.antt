use Rattle.rk_model.proofs.LegalityLemmas.{quiet_means}
use Rattle.rk_model.proofs.laws.quiet_means_no_directive.Goals as goal

pub returns : goal.returns
returns c = quiet_means
