use Rattle.std.proofs.Common.{◌≡◌, ◌+◌, length, arith, ap, sym, ◌∙◌, subst}
use Rattle.rk_model.specs.declared.scenario.Scenario.{Scenario}
use Rattle.rk_model.specs.State.{Plain}
use Rattle.rk_parts.specs.Joined.{plain_of}
use Rattle.rk_parts.specs.Noted.{AreNoted}
use Rattle.rk_directives.specs.Does.{Untouched}
use Rattle.rk_directives.specs.Sound.{IsSound}
use Rattle.rk_kernel.proofs.TickLemmas.{sound_pass}
use Rattle.rk_kernel.proofs.PartsSettledLemmas.{whole_kept}
use Rattle.rk_kernel.proofs.clock.pass.Goals as goal

pub pass_tick-requires : goal.pass_tick-requires
pass_tick-requires c =
    let present = ap (λ (n : Plain). n.present) c.charge_all.ensures.charged in
    let sound = c.requires.ready.sound in
    record {
      whole = whole_kept c.args.all.now c.charge_all.new.all c.requires.ready.whole present c.charge_all.ensures.kept c.charge_all.ensures.held (ap (λ (n : Plain). n.semaphores) c.charge_all.ensures.charged) c.charge_all.ensures.rest;
      below = omega (arith, present, sound.present, sound.horizon);
    }

pub returns : goal.returns
returns c =
    let old = c.args.all.now in
    let new = c.pass_tick.new.all in
    let passed = c.pass_tick.ensures.passed ∙ ap (λ (n : Plain). (let m : Plain = record n { present = n.present + 1 } in m)) c.charge_all.ensures.charged in
    let same : new.scenario ≡ old.scenario = c.pass_tick.ensures.scenario ∙ ap (λ (u : Untouched). u.scenario) c.charge_all.ensures.rest in
    record {
      passed = passed;
      ready = record {
        whole = c.pass_tick.ensures.whole;
        sound = subst IsSound (sym passed) (sound_pass (plain_of old) c.requires.ready.sound c.requires.below);
        noted = subst (λ (s : Scenario). AreNoted (length s.clusters) new.clusters) (sym same) (c.pass_tick.ensures.noted (length old.scenario.clusters) c.charge_all.ensures.noted);
        hosted = c.pass_tick.ensures.hosted c.charge_all.ensures.hosted;
      };
    }
