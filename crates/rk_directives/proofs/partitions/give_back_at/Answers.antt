use Rattle.rk_directives.proofs.DirectiveLemmas.PartitionsLemmas.{gives_back}
use Rattle.rk_directives.proofs.partitions.give_back_at.Goals as goal

pub returns : goal.returns
returns c = λ s clusters. gives_back s clusters c.args.groups.now c.give_back.new.groups c.args.index c.args.address c.give_back.result c.answered.result c.give_back.ensures.partition c.give_back.ensures.reply c.answered.ensures
