use Rattle.std.proofs.Common.{◌≤◌, ◌+◌, ◌%◌, ◌∷◌, [], ◌∙◌, arith}
use Rattle.std.specs.String.{string_bytes}
use Rattle.rk_scenario.specs.Loads.{init_line, drawn, next_number}
use Rattle.rk_scenario.proofs.LoadLemmas.{inits_more, inits_end, lines_step, lines_done}
use Rattle.rk_scenario.proofs.generator.add_inits.Goals as goal

pub loop-index-preserved : goal.loop-index-preserved
loop-index-preserved c =
    let l = c.loop-index in
    let x = l.generator.number in
    let few : l.index ≤ 31 = omega arith in
    let added = rw (c.draw.ensures.drawn, c.draw.ensures.next) at c.in_ok-add_init.ensures in
    rw c.draw.ensures.next
    (lines_step (string_bytes l.text) (string_bytes c.add_init.new.text) (init_line l.index (l.index % 4) (10 + drawn (next_number x) 100) ∷ []) _ _ (inits_more l.index x few) added ∙ l.invariant)

pub returns : goal.returns
returns c =
    let l = c.loop-index in
    let all : 32 ≤ l.index = omega arith in
    lines_done (string_bytes l.text) _ (inits_end l.index l.generator.number all) ∙ l.invariant
