use Rattle.std.proofs.Common.{◌≡◌}
use Rattle.rk_model.specs.Histories.{opening}
use Rattle.rk_model.specs.Scheduling.Seats.{cpu_count}
use Rattle.rk_model.specs.Text.Scenarios.{cpus_in}
use Rattle.rk_model.proofs.LimitLemmas.{limits_of}
use Rattle.rk_kernel.proofs.ReachedLemmas.{cpus_opening}
use Rattle.rk_schedule.proofs.reading.read_opened.Goals as goal

pub read_by-requires : goal.read_by-requires
read_by-requires c = record { few = (limits_of c.args.scenario.now c.requires.valid).limit }

pub returns : goal.returns
returns c =
    let s = c.args.scenario.now in
    let cpus : cpu_count (opening s) ≡ cpus_in s.clusters = cpus_opening s in
    rw (c.in_ok-parts.ensures, cpus) at c.read_by.ensures
