use Rattle.rk_parts.proofs.NotedHostLemmas.{none_hosted, none_spins, still_idle}
use Rattle.rk_parts.proofs.helping.host_parts.Goals as goal

pub returns-then-are_still-clause-hosted : goal.returns-then-are_still-clause-hosted
returns-then-are_still-clause-hosted c =
    let parts = c.args.clusters.now in
    let still = c.are_still.ensures c.if-are_still.true in
    none_hosted parts parts (none_spins parts still) (still_idle parts still)
