use Rattle.std.proofs.Common.{sym}
use Rattle.rk_line.proofs.RankLemmas.{ranked_found, ranked_further, ranked_past, nth_stands}
use Rattle.rk_line.proofs.line.Line.nth_urgent.Goals as goal

pub returns-then-has_rank-clause-value : goal.returns-then-has_rank-clause-value
returns-then-has_rank-clause-value c =
    ranked_found _ _ _ _ _ c.index-places-at.result _ _ c.as_slice-places.ensures c.self.view_is c.self.invariant c.loop-at-test.true c.index-places-at.is c.has_rank.ensures c.if-has_rank.true c.loop-at.invariant

pub returns-then-has_rank-clause-stands : goal.returns-then-has_rank-clause-stands
returns-then-has_rank-clause-stands c = nth_stands _ _ _ _ (sym (returns-then-has_rank-clause-value c))

pub loop-at-preserved : goal.loop-at-preserved
loop-at-preserved c =
    ranked_further _ _ _ _ _ c.index-places-at.result _ _ c.as_slice-places.ensures c.self.view_is c.self.invariant c.loop-at-test.true c.index-places-at.is c.has_rank.ensures c.if-has_rank.false c.loop-at.invariant

pub returns-clause-none : goal.returns-clause-none
returns-clause-none c = ranked_past _ _ c.args.self.now c.args.n c.loop-at.at c.as_slice-places.ensures c.self.view_is c.loop-at-test.false c.loop-at.invariant
