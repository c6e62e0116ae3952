use Rattle.rk_ids.proofs.FoundNameLemmas.{found_least, found_none}
use Rattle.rk_ids.proofs.ids.Ids.find.Goals as goal

pub returns-clause-least : goal.returns-clause-least
returns-clause-least c = found_least c.id_named.result c.args.name.bits c.args.self.now c.id_named.ensures.split c.id_named.ensures.id

pub returns-clause-none : goal.returns-clause-none
returns-clause-none c = found_none c.id_named.result c.args.name.bits c.args.self.now c.id_named.ensures.id
