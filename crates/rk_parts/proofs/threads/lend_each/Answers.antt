use Rattle.std.proofs.Common.{arith, ap, ◌∙◌}
use Rattle.std.proofs.lemmas.List.{take_all}
use Rattle.rk_agg.specs.Shares.{found}
use Rattle.rk_parts.specs.Threads.{bearing_at, with_alone}
use Rattle.rk_parts.proofs.MarkLemmas.{alone_more}
use Rattle.rk_parts.proofs.threads.lend_each.Goals as goal

pub loop-thread-preserved : goal.loop-thread-preserved
loop-thread-preserved c = alone_more c.args.marked.now (bearing_at c.args.places.now) c.args.cluster c.loop-thread.thread-index c.thread-item.result c.alone_in-prio.result (found c.args.shares.now) (found c.loop-thread.shares) (found c.renew_share.new.shares) (omega arith) c.thread-item.is c.alone_in-prio.ensures c.loop-thread.invariant c.renew_share.ensures

pub returns : goal.returns
returns c = c.loop-thread.invariant ∙ ap (λ us. with_alone us (bearing_at c.args.places.now) c.args.cluster (found c.args.shares.now)) (take_all c.loop-thread.thread-index c.args.marked.now (omega arith))
