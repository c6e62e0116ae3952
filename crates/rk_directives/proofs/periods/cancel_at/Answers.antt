use Rattle.rk_directives.proofs.DirectiveLemmas.LentPeriodsLemmas.{cancels, cancels_not}
use Rattle.rk_directives.proofs.periods.cancel_at.Goals as goal

pub returns-in-Successful : goal.returns-in-Successful
returns-in-Successful c = λ s.
    cancels s c.args.clusters.now c.cancel-in-Successful.new.clusters c.args.groups.now c.cancel.new.groups c.args.caller c.args.index c.cancel.result c.done.result c.cancel.ensures.period c.cancel.ensures.reply c.in-Successful.is c.cancel-in-Successful.ensures c.done.ensures

pub returns-in_default : goal.returns-in_default
returns-in_default c = λ s. cancels_not s c.args.clusters.now c.args.groups.now c.cancel.new.groups c.args.caller c.args.index c.cancel.result c.cancel.ensures.period c.cancel.ensures.reply c.in_default.not-Successful
