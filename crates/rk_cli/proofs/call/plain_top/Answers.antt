use Rattle.rk_cli.specs.Plans.{IsPlanned}
use Rattle.rk_cli.proofs.CallLemmas.{schedule_call, check_call}
use Rattle.rk_cli.proofs.call.plain_top.Goals as goal

pub returns-then-is_word-clause-plan : goal.returns-then-is_word-clause-plan
returns-then-is_word-clause-plan g c = λ _. schedule_call IsPlanned _ _ c.plan.ensures.says c.plan.ensures.kept

pub returns-then-is_word-2-clause-check : goal.returns-then-is_word-2-clause-check
returns-then-is_word-2-clause-check g c = λ _. check_call _ _ c.check.ensures.says c.check.ensures.kept
