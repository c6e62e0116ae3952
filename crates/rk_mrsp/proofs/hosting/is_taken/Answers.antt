use Rattle.std.proofs.Common.{arith, sym, ap, ◌∙◌}
use Rattle.rk_model.specs.Scheduling.Helping.{is_for}
use Rattle.rk_mrsp.specs.Scenes.{scene_in}
use Rattle.rk_mrsp.proofs.ScanLemmas.{taken_at}
use Rattle.rk_mrsp.proofs.hosting.is_taken.Goals as goal

pub returns-then-is_thread : goal.returns-then-is_thread
returns-then-is_thread c =
    sym (taken_at (scene_in c.args.chains.now c.args.cpus.now) c.args.thread c.loop-lesser.lesser c.args.cpu (omega arith) (ap (is_for c.args.thread) (sym c.offered.ensures) ∙ sym c.is_thread.ensures ∙ sym (sym c.if-is_thread.true)))
