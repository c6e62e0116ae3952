use Rattle.std.proofs.Common.{◌-◌, arith, ap, sym, ◌∙◌}
use Rattle.std.specs.List.{slice_set}
use Rattle.std.proofs.lemmas.List.{drop_all}
use Rattle.rk_parts.specs.Threads.{bearing, bearings_by, no_bearing}
use Rattle.rk_parts.proofs.MarkLemmas.{all_noted, noted_one, set_size}
use Rattle.rk_parts.proofs.StandingLemmas.{bearings_say, length-bearings}
use Rattle.rk_parts.proofs.threads.note_borne.Goals as goal

pub returns : goal.returns
returns c = all_noted no_bearing (bearings_by c.args.places.now) _ c.loop-thread.borne (length-bearings c.args.places.now ∙ c.requires.places) c.loop-thread.invariant.size (drop_all c.loop-thread.thread-index c.args.marked.now (omega arith)) c.loop-thread.invariant.so_far

pub loop-thread-preserved : goal.loop-thread-preserved
loop-thread-preserved c = record {
  size = set_size c.loop-thread.borne c.set.new.self _ _ 64 c.loop-thread.invariant.size c.set.ensures;
  so_far = noted_one no_bearing (bearings_by c.args.places.now) c.args.marked.now c.loop-thread.thread-index c.thread-item.result c.loop-thread.borne c.set.new.self c.bearing_of.result c.loop-thread.invariant.size (omega arith) c.thread-item.is (omega arith) (omega arith) (c.bearing_of.ensures ∙ ap bearing c.thread_in.ensures ∙ sym (bearings_say c.args.places.now c.thread-item.result)) (c.set.ensures ∙ ap (λ a. slice_set c.loop-thread.borne (a - 1) c.bearing_of.result) c.at.ensures.value) c.loop-thread.invariant.so_far;
}
