use Rattle.std.proofs.Common.{ap, ◌∙◌}
use Rattle.rk_parts.specs.Threads.{bearings_by, standings_by}
use Rattle.rk_parts.proofs.MarkLemmas.{kept_noted}
use Rattle.rk_parts.proofs.threads.Threads.note.Goals as goal

pub invariant_of-self : goal.invariant_of-self
invariant_of-self c = kept_noted c.self.inside.places c.note_stood.new.stood c.note_borne.new.borne c.self.inside.shares c.clear.new.self c.self.inside.spun c.clear.ensures c.self.invariant.0 c.self.invariant.5 (c.note_stood.ensures ∙ ap (standings_by c.self.inside.shares) c.as_slice.ensures) (c.note_borne.ensures ∙ ap bearings_by c.as_slice-3.ensures)
