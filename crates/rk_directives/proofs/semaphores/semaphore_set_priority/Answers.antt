use Rattle.std.proofs.Common.{sym, ◌∙◌}
use Rattle.rk_model.specs.declared.ids.Class.TheVariants.{Semaphore}
use Rattle.rk_model.specs.State.{Plain, semaphore_at}
use Rattle.rk_model.specs.Directives.Objects.{object_named}
use Rattle.rk_model.specs.Directives.Semaphores.{set_at, setting_ceiling}
use Rattle.rk_directives.proofs.DirectiveLemmas.LentLemmas.{unknown_both, found_both}
use Rattle.rk_directives.proofs.semaphores.semaphore_set_priority.Goals as goal

pub returns-in-None : goal.returns-in-None
returns-in-None c = λ s. unknown_both s c.args.clusters.now c.args.groups.now (λ (k : Plain). object_named k c.args.caller Semaphore c.args.id) (λ (k : Plain) i. set_at k i c.args.cluster c.args.prio (setting_ceiling c.args.cluster c.args.prio (semaphore_at k i))) (λ table. sym c.semaphore_named.ensures.found ∙ c.in-None.is)

pub returns-in-Some : goal.returns-in-Some
returns-in-Some c = λ s.
    found_both s c.args.clusters.now c.set_priority_at.new.clusters c.args.groups.now c.set_priority_at.new.groups (λ (k : Plain). object_named k c.args.caller Semaphore c.args.id) (λ (k : Plain) i. set_at k i c.args.cluster c.args.prio (setting_ceiling c.args.cluster c.args.prio (semaphore_at k i))) c.in-Some.index c.set_priority_at.result
    (λ table. sym c.semaphore_named.ensures.found ∙ c.in-Some.is) (c.set_priority_at.ensures s)
