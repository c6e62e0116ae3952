use Rattle.std.proofs.Common.{◌∙◌, ap, sym}
use Rattle.std.specs.Option.{option_copied}
use Rattle.rk_model.proofs.LegalityLemmas.{ends_last}
use Rattle.rk_model.proofs.history.ends_with_end.Goals as goal

pub returns-in-Some : goal.returns-in-Some
returns-in-Some c = c.is_end.ensures ∙ ends_last c.args.entries.now c.in-Some.entry.now (sym (ap option_copied c.in-Some.is) ∙ c.last.ensures.value)
