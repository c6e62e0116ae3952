use Rattle.std.proofs.Common.{None, ap, ◌∙◌}
use Rattle.rk_model.specs.declared.entry.Answer.TheVariants.{Done}
use Rattle.rk_model.specs.declared.status.Status.TheVariants.{Successful}
use Rattle.rk_groups.specs.GroupObjects.{period_lent}
use Rattle.rk_directives.proofs.NamesAgreeLemmas.{first_absent}
use Rattle.rk_directives.proofs.DirectiveLemmas.LentPeriodsLemmas.{creates_period, creates_no_period}
use Rattle.rk_directives.proofs.periods.period_create.Goals as goal

pub create-requires-in-Ok-clause-vacant : goal.create-requires-in-Ok-clause-vacant
create-requires-in-Ok-clause-vacant c = first_absent c.args.names.now.periods (λ i. (period_lent c.args.groups.now i).live) c.in-Ok.index c.requires.named c.in-Ok.ensures.first

pub returns-in-Err : goal.returns-in-Err
returns-in-Err c = λ s. creates_no_period s c.args.groups.now c.args.names.now c.create.new.table c.args.caller c.args.name.bits c.in-Err.status c.in-Err.ensures.made

pub returns-in-Ok : goal.returns-in-Ok
returns-in-Ok c = λ s. creates_period s c.args.groups.now c.create-in-Ok.new.groups c.args.names.now c.create.new.table c.args.caller c.args.name.bits c.in-Ok.index c.done.result c.in-Ok.ensures.made (c.done.ensures ∙ ap (λ bits. Done Successful bits None) c.of.ensures) c.create-in-Ok.ensures
