use Rattle.rk_scenario.specs.Loads.{front_lines, init_line, bodies_from, inits_from, after_draws}
use Rattle.rk_scenario.proofs.LoadLemmas.{parts_together}
use Rattle.rk_scenario.proofs.generator.generate.Goals as goal

pub returns : goal.returns
unfolding front_lines
returns c =
    let n = c.args.n in
    rw (c.into_bytes.ensures.value, c.in_ok-add_inits.ensures, c.in_ok-add_init.ensures, c.in_ok-add_bodies.ensures.next, c.in_ok-add_bodies.ensures.text, c.in_ok-push_str.ensures.bytes, c.new-text.ensures.bytes)
    (parts_together front_lines (bodies_from 1 n) (inits_from 1 (after_draws n 155)) (init_line 0 0 1))
