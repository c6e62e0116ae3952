use Rattle.rk_model.specs.declared.scenario.ScenarioWhy.TheVariants.{MissingEnd}
use Rattle.rk_scenario.proofs.ReasonLemmas.{comes_where}
use Rattle.rk_scenario.proofs.laws.missing_end_comes_where_more_must_follow.Goals as goal

pub returns : goal.returns
returns c = comes_where MissingEnd
