use Rattle.std.proofs.Common.{◌≡◌, ◌+◌, [], drop, sym, ap, ◌∙◌, subst}
use Rattle.std.proofs.Math.ListN.{drop_of_length-le}
use Rattle.rk_model.specs.State.{Plain}
use Rattle.rk_parts.specs.Joined.{no_scenario, joined}
use Rattle.rk_directives.specs.Does.{AllLive, woken}
use Rattle.rk_directives.proofs.DirectiveLemmas.LentLemmas.{laid_kept}
use Rattle.rk_directives.proofs.DirectiveLemmas.LentBarriersLemmas.{waits_left, still_live}
use Rattle.rk_directives.proofs.waits.wake_all.Goals as goal

pub stop_wait-requires : goal.stop_wait-requires
stop_wait-requires c =
    let left = waits_left c.args.wakes.now c.loop-wake.wake-index c.wake-item.result c.loop-wake-test.true c.wake-item.is in
    (subst (AllLive c.loop-wake.clusters) left c.loop-wake.invariant.live).0

pub loop-wake-preserved : goal.loop-wake-preserved
loop-wake-preserved c =
    let old = c.loop-wake.clusters in
    let rest = drop (c.loop-wake.wake-index + 1) c.args.wakes.now in
    let left = waits_left c.args.wakes.now c.loop-wake.wake-index c.wake-item.result c.loop-wake-test.true c.wake-item.is in
    record {
      live = still_live old c.stop_wait.new.clusters rest c.stop_wait.ensures.lives (subst (AllLive old) left c.loop-wake.invariant.live).1;
      state = λ s table groups laid.
          ap (λ (k : Plain). woken k rest) ((c.stop_wait.ensures.state s).state table groups (laid_kept s.clusters c.args.clusters.now old c.loop-wake.invariant.kept laid))
          ∙ ap (woken (joined s table old groups)) (sym left)
          ∙ c.loop-wake.invariant.state s table groups laid;
      kept = (c.stop_wait.ensures.state no_scenario).kept ∙ c.loop-wake.invariant.kept;
      held = (c.stop_wait.ensures.state no_scenario).held ∙ c.loop-wake.invariant.held;
    }

pub returns : goal.returns
returns c = λ s.
    let none : drop c.loop-wake.wake-index c.args.wakes.now ≡ [] = drop_of_length-le c.args.wakes.now c.loop-wake-test.false in
    record {
      state = λ table groups laid. (ap (woken (joined s table c.loop-wake.clusters groups)) (sym none) ∙ c.loop-wake.invariant.state s table groups laid);
      kept = c.loop-wake.invariant.kept;
      held = c.loop-wake.invariant.held;
    }
