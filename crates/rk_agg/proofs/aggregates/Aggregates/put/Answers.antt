use Rattle.std.proofs.Common.{ap, sym, subst, ◌∙◌, length, length-set}
use Rattle.rk_agg.specs.Shares.{found, least_source, with_found, Shares}
use Rattle.rk_agg.proofs.ShareLemmas.{found_written, indexed_written, least_written, IsNotedAt}
use Rattle.rk_agg.proofs.aggregates.Aggregates.put.Goals as goal

pub invariant_of-self : goal.invariant_of-self
invariant_of-self c = (
  least_written c.self.inside.cells c.set.new.self c.self.inside.least c.set-2.new.self c.args.thread c.args.cluster c.args.source c.row_of-row.result c.args.share c.args.least c.self.invariant.0
      (ap (λ (xs : Shares). length xs) c.set.ensures ∙ length-set c.self.inside.cells c.cell_of.result c.args.share ∙ c.self.invariant.0.cells_each)
      (found_written c.self.inside.cells c.set.new.self c.args.thread c.args.cluster c.args.source c.cell_of.result c.args.share c.self.invariant.0.cells_each c.cell_of.ensures.within c.cell_of.ensures.value c.cell_of.ensures.row c.cell_of.ensures.source c.set.ensures)
      c.row_of-row.ensures.within c.row_of-row.ensures.value c.row_of-row.ensures.row c.set-2.ensures
      (c.requires.least ∙ ap (λ (xs : Shares). least_source (with_found c.args.thread c.args.cluster c.args.source c.args.share (found xs) c.args.thread c.args.cluster)) (sym c.self.view_is)),
  indexed_written c.self.inside.cells c.set.new.self c.self.inside.sources c.self.inside.targets c.note.new.sets c.note-2.new.sets c.args.thread c.args.cluster c.args.source c.row_of-row.result c.row_of.result c.args.share c.self.invariant.1
      (found_written c.self.inside.cells c.set.new.self c.args.thread c.args.cluster c.args.source c.cell_of.result c.args.share c.self.invariant.0.cells_each c.cell_of.ensures.within c.cell_of.ensures.value c.cell_of.ensures.row c.cell_of.ensures.source c.set.ensures)
      c.row_of-row.ensures.row c.row_of.ensures.row c.row_of-row.ensures.value c.row_of.ensures.value
      (subst (IsNotedAt c.self.inside.sources c.note.new.sets c.row_of-row.result c.args.source) c.is_some-there.ensures (record { size = c.note.ensures.size; here = c.note.ensures.row; others = c.note.ensures.others }))
      (subst (IsNotedAt c.self.inside.targets c.note-2.new.sets c.row_of.result c.args.thread) c.is_some-there.ensures (record { size = c.note-2.ensures.size; here = c.note-2.ensures.row; others = c.note-2.ensures.others })),
)

pub returns : goal.returns
returns c =
    found_written c.self.inside.cells c.set.new.self c.args.thread c.args.cluster c.args.source c.cell_of.result c.args.share c.self.invariant.0.cells_each c.cell_of.ensures.within c.cell_of.ensures.value c.cell_of.ensures.row c.cell_of.ensures.source c.set.ensures
    ∙ ap (λ (xs : Shares). with_found c.args.thread c.args.cluster c.args.source c.args.share (found xs)) c.self.view_is
