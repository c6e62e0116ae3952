use Rattle.rk_parts.proofs.ContributingLemmas.{remade}
use Rattle.rk_parts.proofs.contribute.remake.Goals as goal

pub flag_chain-requires : goal.flag_chain-requires
flag_chain-requires c = c.empty-flags.ensures

pub returns-clause-shares : goal.returns-clause-shares
returns-clause-shares c = remade c.args.clusters.now c.relend.new.clusters c.args.source c.home_of-home.result c.own-own.result c.flag_chain.new.flags c.home_of-home.ensures c.own-own.ensures c.flag_chain.ensures c.relend.ensures.shares
