use Rattle.rk_model.specs.declared.ids.Class.TheVariants.{Period}
use Rattle.rk_parts.specs.Joined.{plain_of}
use Rattle.rk_directives.proofs.DirectiveLemmas.ObjectsLemmas.{named_lives}
use Rattle.rk_directives.proofs.DirectiveLemmas.LentLemmas.{all_every}
use Rattle.rk_directives.proofs.actions.perform_period_delete.Goals as goal

pub period_delete-requires-clause-named : goal.period_delete-requires-clause-named
period_delete-requires-clause-named c = c.requires.acts.sound.named.class Period

pub period_delete-requires-clause-lives : goal.period_delete-requires-clause-lives
period_delete-requires-clause-lives c = λ i found. (c.requires.acts.sound.periods.each i).created (named_lives (plain_of c.args.all.now) c.args.caller Period c.args.id i found)

pub returns : goal.returns
returns c = all_every c.args.all.now _ _ _ _ _ c.requires.whole (c.period_delete.ensures c.args.all.now.scenario)
