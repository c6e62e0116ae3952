use Rattle.std.proofs.Common.{None, ap, sym, ◌∙◌}
use Rattle.rk_agg.specs.Shares.{found, with_found}
use Rattle.rk_agg.proofs.ShareLemmas.{comparing_starts, comparing_goes_on, comparing_ends, none_but}
use Rattle.rk_agg.proofs.aggregates.Aggregates.least_but.Goals as goal

pub comparing-init : goal.comparing-init
comparing-init c = comparing_starts (with_found c.args.thread c.args.cluster c.args.source None (found c.args.self.now) c.args.thread c.args.cluster) c.sources-rest.result (λ u no. none_but c.args.thread c.args.cluster c.args.source (found c.args.self.now) u (sym (c.sources-rest.ensures u) ∙ no))

pub comparing-preserved : goal.comparing-preserved
comparing-preserved c = comparing_goes_on (with_found c.args.thread c.args.cluster c.args.source None (found c.args.self.now) c.args.thread c.args.cluster) c.comparing.rest c.take_least.new.self c.in-Some.at c.comparing.best c.lesser_of-best.result c.share_but.result c.in-Some.ensures.some (c.share_but.ensures ∙ ap (with_found c.args.thread c.args.cluster c.args.source None (found c.args.self.now) c.args.thread c.args.cluster) c.new-other.ensures) c.lesser_of-best.ensures c.comparing.invariant

pub returns : goal.returns
returns c = comparing_ends (with_found c.args.thread c.args.cluster c.args.source None (found c.args.self.now) c.args.thread c.args.cluster) c.comparing.rest c.comparing.best c.in_default.ensures.none c.comparing.invariant
