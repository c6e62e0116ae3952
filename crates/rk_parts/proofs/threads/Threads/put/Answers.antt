use Rattle.std.proofs.Common.{◌||◌, ap, ◌∙◌}
use Rattle.rk_model.specs.Lists.{nth}
use Rattle.rk_model.specs.State.{no_thread}
use Rattle.rk_model.specs.Scheduling.Priorities.{is_spinning}
use Rattle.rk_parts.proofs.MarkLemmas.{kept_put}
use Rattle.rk_parts.proofs.threads.Threads.put.Goals as goal

pub invariant_of-self : goal.invariant_of-self
invariant_of-self c = kept_put c.self.inside.places c.set.new.self c.self.inside.stood c.self.inside.borne c.self.inside.shares c.self.inside.marked c.mark.new.marked c.self.inside.spun c.note_spinner.new.spun c.at.result c.args.index c.args.thread c.at.ensures.value c.at.ensures.low c.set.ensures c.self.invariant c.mark.ensures.apart c.mark.ensures.marks
    (c.note_spinner.ensures ∙ ap (λ x. c.self.inside.spun || is_spinning x.wait) (c.thread_in-put.ensures ∙ ap (λ places. nth no_thread places c.args.index) c.as_slice.ensures))
