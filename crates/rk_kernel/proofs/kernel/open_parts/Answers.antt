use Rattle.std.proofs.Common.{sym, subst}
use Rattle.rk_model.proofs.LimitLemmas.{limits_of}
use Rattle.rk_kernel.specs.Manned.{AreManned}
use Rattle.rk_kernel.proofs.RunnerLaws.{manned_opening}
use Rattle.rk_kernel.proofs.kernel.open_parts.Goals as goal

pub make_opening-requires : goal.make_opening-requires
make_opening-requires c = limits_of c.args.scenario.now c.requires

pub invariant_of-result : goal.invariant_of-result
invariant_of-result c = (
  c.in_ok-all.ensures.ready,
  subst AreManned (sym c.in_ok-all.ensures.opening) (manned_opening c.args.scenario.now (limits_of c.args.scenario.now c.requires)),
)
