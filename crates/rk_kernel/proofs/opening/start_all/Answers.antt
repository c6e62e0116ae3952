use Rattle.std.proofs.Common.{IsSome, arith, sym, ◌∙◌, subst}
use Rattle.rk_parts.proofs.SettledPartLemmas.{number_kept}
use Rattle.rk_kernel.proofs.OpeningLemmas.{not_begun, home_known, started_next, started_all}
use Rattle.rk_kernel.proofs.opening.start_all.Goals as goal

pub make-requires-clause-absent : goal.make-requires-clause-absent
make-requires-clause-absent c = not_begun c.args.scenario.now c.args.clusters.now c.loop-at.clusters c.loop-at.at c.new.result c.new.ensures c.loop-at.invariant.started

pub make-requires-clause-lent : goal.make-requires-clause-lent
make-requires-clause-lent c =
    let home = home_known c.args.scenario.now c.at.result c.loop-at.at c.begin-thread.result c.requires.within (omega arith) c.at.ensures c.begin-thread.ensures in
    subst IsSome (sym (number_kept c.args.clusters.now c.loop-at.clusters c.begin-thread.result.home c.loop-at.invariant.kept)) (c.requires.lent c.begin-thread.result.home home)

pub loop-at-preserved : goal.loop-at-preserved
loop-at-preserved c =
    let s = c.args.scenario.now in
    let home = home_known s c.at.result c.loop-at.at c.begin-thread.result c.requires.within (omega arith) c.at.ensures c.begin-thread.ensures in
    record {
      started = λ table groups. started_next s table groups c.args.clusters.now c.loop-at.clusters c.make.new.clusters c.new.result c.begin-thread.result c.at.result c.loop-at.at (omega arith) c.requires.within.few_inits c.at.ensures c.begin-thread.ensures c.new.ensures (c.make.ensures.state s table groups c.loop-at.invariant.laid) (c.loop-at.invariant.started table groups);
      laid = c.make.ensures.laid s.clusters c.loop-at.invariant.laid (λ _. home);
      kept = c.make.ensures.kept ∙ c.loop-at.invariant.kept;
      accounts = c.make.ensures.accounts ∙ c.loop-at.invariant.accounts;
      held = c.make.ensures.held ∙ c.loop-at.invariant.held;
    }

pub returns-clause-started : goal.returns-clause-started
returns-clause-started c = λ table groups. started_all c.args.scenario.now table groups c.args.clusters.now c.loop-at.clusters c.loop-at.at (omega arith) (c.loop-at.invariant.started table groups)
