use Rattle.std.proofs.Common.{◌≤◌, ◌∙◌, sym, arith}
use Rattle.std.specs.String.{string_bytes}
use Rattle.rk_scenario.specs.Loads.{activity_drawn, body_lines}
use Rattle.rk_scenario.proofs.LoadLemmas.{bodies_more, bodies_end, draws_more, draws_end, lines_step, lines_done}
use Rattle.rk_scenario.proofs.generator.add_bodies.Goals as goal

pub loop-index-preserved : goal.loop-index-preserved
loop-index-preserved c =
    let l = c.loop-index in
    let x = l.generator.number in
    let few : l.index ≤ 31 = omega arith in
    let added = rw c.draw_activity-activity.ensures.drawn at c.in_ok-add_body.ensures in
    rw c.draw_activity-activity.ensures.next
    (record {
      text = lines_step (string_bytes l.text) (string_bytes c.add_body.new.text) (body_lines l.index (activity_drawn x)) _ _ (bodies_more l.index x few) added ∙ l.invariant.text;
      next = sym (draws_more l.index x few) ∙ l.invariant.next;
    })

pub returns : goal.returns
returns c =
    let l = c.loop-index in
    let x = l.generator.number in
    let all : 32 ≤ l.index = omega arith in
    record {
      text = lines_done (string_bytes l.text) _ (bodies_end l.index x all) ∙ l.invariant.text;
      next = sym (draws_end l.index x all) ∙ l.invariant.next;
    }
