use Rattle.std.proofs.Common.{◌≡◌, take, drop}
use Rattle.rk_model.specs.Text.ScheduleForms.{is_place_from, is_place}
use Rattle.rk_schedule.proofs.words.is_place.Given as goal

abbrev pub invariant-loop-at : goal.invariant-loop-at
invariant-loop-at l = is_place_from (take l.at l.word) (drop l.at l.word) ≡ is_place l.word
