use Rattle.std.proofs.Common.{◌≡◌, ◌==◌, cond, ap, ◌∙◌, subst}
use Rattle.rk_agg.specs.Shares.{found}
use Rattle.rk_parts.specs.Contributions.{reach_to}
use Rattle.rk_parts.specs.declared.parts.ClusterPart.{ClusterPart}
use Rattle.rk_parts.specs.Threads.{Threads}
use Rattle.rk_parts.proofs.contribute.relend_in.Goals as goal

pub returns-clause-flat : goal.returns-clause-flat
returns-clause-flat c = ap (λ (ts : Threads). (let p : ClusterPart = record c.args.part.now { threads = ts } in p)) c.relend_each.ensures.rest

pub returns-clause-shares : goal.returns-clause-shares
returns-clause-shares c = λ t w one. subst (λ n. found c.relend_each.new.threads.shares t n w ≡ cond (w == c.args.source) (reach_to c.args.home c.args.own c.args.flags.now n t) (found c.args.part.now.threads.shares t n w)) c.number-number.ensures.value (c.relend_each.ensures.shares t w one)

pub returns-clause-elsewhere : goal.returns-clause-elsewhere
returns-clause-elsewhere c = λ t d w other. c.relend_each.ensures.elsewhere t d w (λ e. other (e ∙ c.number-number.ensures.value))
