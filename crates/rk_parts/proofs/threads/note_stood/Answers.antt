use Rattle.std.proofs.Common.{◌-◌, arith, ap, sym, ◌∙◌}
use Rattle.std.specs.List.{slice_set}
use Rattle.std.proofs.lemmas.List.{drop_all}
use Rattle.rk_model.specs.Scheduling.Priorities.{no_standing}
use Rattle.rk_parts.specs.Threads.{standings_by}
use Rattle.rk_parts.proofs.MarkLemmas.{all_noted, noted_one, set_size}
use Rattle.rk_parts.proofs.StandingLemmas.{length-standings_by, standings_say_at}
use Rattle.rk_parts.proofs.threads.note_stood.Goals as goal

pub returns : goal.returns
returns c = all_noted no_standing (standings_by c.args.shares.now c.args.places.now) _ c.loop-thread.stood (length-standings_by c.args.shares.now c.args.places.now ∙ c.requires.places) c.loop-thread.invariant.size (drop_all c.loop-thread.thread-index c.args.marked.now (omega arith)) c.loop-thread.invariant.so_far

pub loop-thread-preserved : goal.loop-thread-preserved
loop-thread-preserved c = record {
  size = set_size c.loop-thread.stood c.set.new.self _ _ 64 c.loop-thread.invariant.size c.set.ensures;
  so_far = noted_one no_standing (standings_by c.args.shares.now c.args.places.now) c.args.marked.now c.loop-thread.thread-index c.thread-item.result c.loop-thread.stood c.set.new.self c.standing_in.result c.loop-thread.invariant.size (omega arith) c.thread-item.is (omega arith) (omega arith) (c.standing_in.ensures ∙ sym (standings_say_at c.args.shares.now c.args.places.now c.thread-item.result)) (c.set.ensures ∙ ap (λ a. slice_set c.loop-thread.stood (a - 1) c.standing_in.result) c.at.ensures.value) c.loop-thread.invariant.so_far;
}
