use Rattle.std.proofs.Common.{rules, arith}
use Rattle.rk_mrsp.specs.Scenes.{scene_in}
use Rattle.rk_mrsp.proofs.ScanLemmas.{seated_at}
use Rattle.rk_mrsp.proofs.hosting.is_seated.Goals as goal

pub returns-then-is_thread : goal.returns-then-is_thread
returns-then-is_thread c = seated_at (scene_in c.args.chains.now c.args.cpus.now) c.args.thread c.loop-cpu.cpu (omega arith) (search rules)
