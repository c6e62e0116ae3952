use Rattle.std.proofs.Common.{ap, ◌∙◌}
use Rattle.rk_model.specs.declared.ids.Class.TheVariants.{Task}
use Rattle.rk_model.specs.declared.state.Thread.{Thread}
use Rattle.rk_model.specs.Names.{lives}
use Rattle.rk_model.specs.Directives.Objects.{has_begun, without_object}
use Rattle.rk_parts.specs.Joined.{thread_lent}
use Rattle.rk_directives.specs.Does.{with_table}
use Rattle.rk_directives.proofs.NamesAgreeLemmas.{lives_named}
use Rattle.rk_directives.proofs.DirectiveLemmas.LentLemmas.{deleted}
use Rattle.rk_directives.proofs.tasks.without_task.Goals as goal

pub remove-requires-2 : goal.remove-requires-2
remove-requires-2 c = ap (lives c.args.names.now.tasks) (c.from.ensures ∙ c.at.ensures.value) ∙ lives_named c.args.names.now.tasks (λ t. has_begun (thread_lent c.args.clusters.now t).life) c.args.task c.requires.named ∙ c.requires.lives

pub returns : goal.returns
returns c = λ s.
    deleted s c.args.clusters.now c.cancel.new.clusters c.remove.new.clusters c.args.groups.now c.leave.new.groups c.args.names.now c.remove-2.new.table c.args.task _ (ap (λ (x : Thread). x.wait) c.thread_of-wait.ensures) c.leave.ensures c.cancel.ensures c.remove.ensures
    (λ k. c.remove-2.ensures k ∙ ap (without_object (with_table k c.args.names.now) Task) (c.from.ensures ∙ c.at.ensures.value))
