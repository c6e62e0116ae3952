use Rattle.rk_directives.proofs.DirectiveLemmas.PartitionsLemmas.{takes}
use Rattle.rk_directives.proofs.partitions.take_at.Goals as goal

pub returns : goal.returns
returns c = λ s clusters. takes s clusters c.args.groups.now c.take.new.groups c.args.index c.take.result c.answered.result c.take.ensures.partition c.take.ensures.reply c.answered.ensures
