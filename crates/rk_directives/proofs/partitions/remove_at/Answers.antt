use Rattle.std.proofs.Common.{ap, sym, ◌∙◌}
use Rattle.rk_model.specs.declared.entry.Reply.{Reply}
use Rattle.rk_model.specs.Directives.Partitions.{is_in_use}
use Rattle.rk_groups.specs.GroupObjects.{partition_lent}
use Rattle.rk_directives.proofs.NamesAgreeLemmas.{lives_named}
use Rattle.rk_directives.proofs.DirectiveLemmas.PartitionsLemmas.{was_unused, was_used, removes, keeps}
use Rattle.rk_directives.proofs.partitions.remove_at.Goals as goal

pub remove-requires-in-Successful : goal.remove-requires-in-Successful
remove-requires-in-Successful c = lives_named c.args.names.now.partitions (λ i. (partition_lent c.args.groups.now i).live) c.args.index c.requires.named ∙ c.requires.live

pub returns-in-Successful : goal.returns-in-Successful
returns-in-Successful c = λ s.
    removes s c.args.groups.now c.remove.new.groups c.args.names.now c.remove-in-Successful.new.table c.args.index c.done.result
    (was_unused (is_in_use (partition_lent c.args.groups.now c.args.index)) (ap (λ (r : Reply). r.status) (sym c.remove.ensures.reply) ∙ c.in-Successful.is)) c.remove.ensures.partition c.done.ensures c.remove-in-Successful.ensures

pub returns-in_default : goal.returns-in_default
returns-in_default c = λ s.
    keeps s c.args.groups.now c.remove.new.groups c.args.names.now c.args.index c.remove.result.status
    (was_used (is_in_use (partition_lent c.args.groups.now c.args.index)) (λ e. c.in_default.not-Successful (ap (λ (r : Reply). r.status) c.remove.ensures.reply ∙ e))) c.remove.ensures.partition (ap (λ (r : Reply). r.status) c.remove.ensures.reply)
