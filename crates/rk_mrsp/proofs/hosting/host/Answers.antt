use Rattle.std.proofs.Common.{arith, ap, refl, ◌∙◌}
use Rattle.rk_mrsp.specs.Scenes.{cpu_in, scene_in, hosts_of}
use Rattle.rk_mrsp.proofs.ScanLemmas.{all_hosts, hosts_say}
use Rattle.rk_mrsp.proofs.hosting.host.Goals as goal

pub returns-clause-helped : goal.returns-clause-helped
returns-clause-helped c = λ p.
    let x = scene_in c.args.chains.now c.args.cpus.now in
    let seats = c.seats-seats.result.now in
    let out = c.loop-seat.out-inside.hosts in
    let all = all_hosts x out seats c.loop-seat.seat-index (omega arith) c.loop-seat.invariant.pairs in
    ap (λ hosts. cpu_in hosts p) (all ∙ ap (hosts_of x) c.seats-seats.ensures.value) ∙ hosts_say x c.args.cpus.now p refl
