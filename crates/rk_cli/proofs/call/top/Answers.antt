use Rattle.rk_cli.specs.Plans.{IsTaken}
use Rattle.rk_cli.proofs.CallLemmas.{schedule_call, plain_legal}
use Rattle.rk_cli.proofs.call.top.Goals as goal

pub returns-then-is_word-clause-run : goal.returns-then-is_word-clause-run
returns-then-is_word-clause-run g c = λ _. schedule_call IsTaken _ _ c.run.ensures.says c.run.ensures.kept

pub returns-else-is_word-clause-legal : goal.returns-else-is_word-clause-legal
returns-else-is_word-clause-legal g c = plain_legal _ _ _ _ c.plain_top.ensures.words c.plain_top.ensures.plan
