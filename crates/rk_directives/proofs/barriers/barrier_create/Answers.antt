use Rattle.std.proofs.Common.{None, ap, sym, ◌∙◌}
use Rattle.rk_model.specs.declared.entry.Answer.TheVariants.{Done}
use Rattle.rk_model.specs.declared.status.Status.TheVariants.{Successful}
use Rattle.rk_groups.specs.GroupObjects.{barrier_lent}
use Rattle.rk_directives.proofs.NamesAgreeLemmas.{first_absent}
use Rattle.rk_directives.proofs.DirectiveLemmas.LentBarriersLemmas.{accepts, creates, creates_none}
use Rattle.rk_directives.proofs.barriers.barrier_create.Goals as goal

pub create-requires-in-Ok-clause-vacant : goal.create-requires-in-Ok-clause-vacant
create-requires-in-Ok-clause-vacant c = first_absent c.args.names.now.barriers (λ i. (barrier_lent c.args.groups.now i).live) c.in-Ok.index c.requires.named c.in-Ok.ensures.first

pub create-requires-in-Ok-clause-some : goal.create-requires-in-Ok-clause-some
create-requires-in-Ok-clause-some c = accepts c.args.automatic c.args.most (sym c.most_refusal.ensures ∙ c.in-Ok.ensures.accepted)

pub returns-in-Err : goal.returns-in-Err
returns-in-Err c = λ s. creates_none s c.args.groups.now c.args.names.now c.create.new.table c.args.name.bits c.args.most c.args.automatic c.most_refusal.result c.in-Err.status c.most_refusal.ensures c.in-Err.ensures.made

pub returns-in-Ok : goal.returns-in-Ok
returns-in-Ok c = λ s. creates s c.args.groups.now c.create-in-Ok.new.groups c.args.names.now c.create.new.table c.args.name.bits c.in-Ok.index c.args.most c.args.automatic c.most_refusal.result c.done.result c.most_refusal.ensures c.in-Ok.ensures.made (c.done.ensures ∙ ap (λ bits. Done Successful bits None) c.of.ensures) c.create-in-Ok.ensures
