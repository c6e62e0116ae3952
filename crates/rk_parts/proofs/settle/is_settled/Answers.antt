use Rattle.std.proofs.Common.{sym, ◌∙◌}
use Rattle.std.proofs.lemmas.Bool.{false≢true}
use Rattle.rk_parts.proofs.SettledPartLemmas.{no_items, settled_part_still, is_false}
use Rattle.rk_parts.proofs.settle.is_settled.Goals.{then-is_empty, else-is_empty}
use Rattle.rk_parts.proofs.settle.is_settled.Goals as goal

pub returns-then-not-is_changed : goal.returns-then-not-is_changed
returns-then-not-is_changed c = λ elsewhere. elim c.if-is_empty.branch [
  | then-is_empty w ↦
      let none = no_items c.marked.result.now (sym c.is_empty.ensures ∙ w.if-is_empty.true) in
      settled_part_still c.marked.result.now c.args.last.now c.args.part.now none c.marked.ensures.others c.marked.ensures.places c.marked.ensures.stood c.marked.ensures.borne (w.is_changed.ensures.same (is_false w.is_changed.result (sym w.value-is ∙ c.if-not-is_changed.true))) (sym c.lives_last.ensures ∙ is_false c.lives_last.result elsewhere) c.number-number.ensures.still
  | else-is_empty w ↦ absurd (false≢true (sym w.if-is_empty.false ∙ sym w.value-is ∙ c.if-not-is_changed.true))
]
