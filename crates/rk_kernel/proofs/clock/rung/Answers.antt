use Rattle.rk_kernel.proofs.FiringLemmas.{rings, rings_end}
use Rattle.rk_kernel.proofs.clock.rung.Goals as goal

pub returns-in-Thread : goal.returns-in-Thread
returns-in-Thread c = rings c.args.clusters.now c.end_wait.new.clusters c.args.groups.now c.end_wait.new.groups c.args.who _ c.thread_of-wait.result c.reply_at_timer.result c.in-Thread.is c.thread_of-wait.ensures c.reply_at_timer.ensures c.end_wait.ensures

pub returns-in-Period : goal.returns-in-Period
returns-in-Period c = rings_end c.args.clusters.now c.pass_end.new.clusters c.args.groups.now c.pass_end.new.groups c.args.who _ c.in-Period.is (λ s. rw (← c.from.ensures) (c.pass_end.ensures s))
