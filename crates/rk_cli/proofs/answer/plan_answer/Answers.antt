use Rattle.std.proofs.Common.{subst, List}
use Rattle.rk_model.specs.declared.entry.Entry.{Entry}
use Rattle.rk_cli.specs.Answers.{IsOfHistory}
use Rattle.rk_cli.proofs.PlanLemmas.{plan_answers}
use Rattle.rk_cli.proofs.answer.plan_answer.Goals as goal

pub returns-in-Ok-run_lowest-clause-answer : goal.returns-in-Ok-run_lowest-clause-answer
returns-in-Ok-run_lowest-clause-answer g c =
    plan_answers _ _ _ _ c.in-Ok.scenario c.in-Ok-run_lowest.history.entries _ c.in-Ok.ensures.known c.in-Ok.ensures.read c.in-Ok-run_lowest.ensures
    (subst (λ (xs : List Entry). IsOfHistory c.in-Ok.scenario xs c.history_answer.result) c.entries.ensures c.history_answer.ensures)
