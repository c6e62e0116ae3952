use Rattle.std.proofs.Common.{◌∙◌}
use Rattle.rk_groups.specs.GroupObjects.{period_lent}
use Rattle.rk_directives.proofs.NamesAgreeLemmas.{lives_named}
use Rattle.rk_directives.proofs.DirectiveLemmas.LentPeriodsLemmas.{ends_period, ends_not}
use Rattle.rk_directives.proofs.periods.remove_at.Goals as goal

pub remove-requires-in-Successful : goal.remove-requires-in-Successful
remove-requires-in-Successful c = lives_named c.args.names.now.periods (λ i. (period_lent c.args.groups.now i).live) c.args.index c.requires.named ∙ c.requires.live

pub returns-in-Successful : goal.returns-in-Successful
returns-in-Successful c = λ s.
    ends_period s c.args.clusters.now c.cancel.new.clusters c.args.groups.now c.remove.new.groups c.args.names.now c.remove-in-Successful.new.table c.args.index c.creator-by.result c.remove.result c.done.result
    c.creator-by.ensures c.remove.ensures.period c.remove.ensures.reply c.in-Successful.is c.cancel.ensures c.remove-in-Successful.ensures c.done.ensures

pub returns-in_default : goal.returns-in_default
returns-in_default c = λ s. ends_not s c.args.clusters.now c.args.groups.now c.remove.new.groups c.args.names.now c.args.index c.remove.result c.remove.ensures.period c.remove.ensures.reply c.in_default.not-Successful
