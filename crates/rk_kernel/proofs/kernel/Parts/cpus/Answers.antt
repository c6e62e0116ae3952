use Rattle.std.proofs.Common.{ap, sym, ◌∙◌}
use Rattle.rk_model.specs.Scheduling.Seats.{cpu_count}
use Rattle.rk_kernel.proofs.PartsSettledLemmas.{count_processors, few_processors}
use Rattle.rk_kernel.proofs.kernel.Parts.cpus.Goals as goal

pub count_cpus-requires : goal.count_cpus-requires
count_cpus-requires c = few_processors c.self.inside.all c.self.invariant.0

pub returns-clause-count : goal.returns-clause-count
returns-clause-count c = c.count_cpus.ensures ∙ sym (count_processors c.self.inside.all c.self.invariant.0) ∙ ap cpu_count c.self.view_is

pub returns-clause-few : goal.returns-clause-few
returns-clause-few c = rw c.count_cpus.ensures (few_processors c.self.inside.all c.self.invariant.0)
