use Rattle.std.proofs.Common.{rules, ◌∙◌, ap, filter}
use Rattle.std.proofs.lemmas.Fn.{filter_same}
use Rattle.rk_model.specs.Text.Words.{has_bytes}
use Rattle.rk_scenario.proofs.words.find_words.Goals as goal

pub returns : goal.returns
returns c = c.from_vec.ensures ∙ filter_same _ _ _ (λ x b f' k. search rules) _ _ c.retain.ensures.filtered ∙ ap (filter has_bytes) (c.into_vec-words.ensures ∙ c.in_ok-spaced.ensures)
