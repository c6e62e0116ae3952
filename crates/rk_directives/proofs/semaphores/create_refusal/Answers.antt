use Rattle.std.proofs.Common.{sym, ◌∙◌}
use Rattle.rk_model.specs.Directives.Semaphores.{spec_refusal}
use Rattle.rk_directives.proofs.DirectiveLemmas.LentSemaphoresLemmas.{judged_ill, judged_refusal, judged_well}
use Rattle.rk_directives.proofs.semaphores.create_refusal.Goals as goal

pub returns-in-Successful : goal.returns-in-Successful
returns-in-Successful c = sym (judged_well c.args.spec c.args.by.prio (sym c.judge.ensures ∙ c.in-Successful.is)) ∙ judged_refusal c.args.spec c.args.by.prio c.in_default.not-Mrsp

pub returns-in_default-judge : goal.returns-in_default-judge
returns-in_default-judge c = sym (judged_ill (spec_refusal c.args.spec c.args.by.prio) c.judge.result (sym c.judge.ensures) c.in_default-judge.not-Successful) ∙ judged_refusal c.args.spec c.args.by.prio c.in_default.not-Mrsp
