-- The text of an ending, as it is written and as it is read.
use Rattle.std.proofs.Common.{◌≡◌, ℕ, zero, suc, ◌+◌, ◌≤◌, List, [], ◌∷◌, ◌++◌, Bool, true, false, cond, length, arith, sym, ◌∙◌, append_assoc, length-append}
use Rattle.rk_model.specs.declared.scenario.Scenario.{Scenario}
use Rattle.rk_model.specs.declared.period.Stats.{Stats}
use Rattle.rk_model.specs.State.{Plain, period_at}
use Rattle.rk_model.specs.Text.Schedules.{text_of_lines, period_line, period_lines_among, period_lines_from, final_line}
use Rattle.rk_model.proofs.ScheduleLemmas.{lines_together}
use Rattle.rk_schedule.specs.Stored.{stored_in}
use Rattle.rk_model.specs.Text.Words.{whole_lines}
use Rattle.rk_schedule.specs.Reading.{ending_lines}
use Rattle.rk_schedule.proofs.CleanLemmas.{clean_ending, split_text}

-- the text of lines and a last one
pub last_line_behind : (lines : List (List ℕ)) (last : List ℕ) → text_of_lines lines ++ last ++ 10 ∷ [] ≡ text_of_lines (lines ++ last ∷ [])
last_line_behind lines last = append_assoc (text_of_lines lines) last (10 ∷ []) ∙ sym (lines_together lines (last ∷ []))

-- the lines of the text of an ending are its lines
pub ending_split : (s : Scenario) (k : Plain) → whole_lines (text_of_lines (ending_lines s k)) ≡ ending_lines s k
ending_split s k = (split_text (ending_lines s k) (clean_ending s k (stored_in k) true)).0

few_among : (k : Plain) (stats : ℕ → Stats) (index n : ℕ) → length (period_lines_among k stats index n) ≤ n
few_among k stats index zero = omega arith
few_among k stats index (suc n) = by (period_at k index).live (few_among k stats (index + 1) n) where
  by : (live : Bool) → length (period_lines_among k stats (index + 1) n) ≤ n → length (cond live (period_line index (stats index) ∷ []) [] ++ period_lines_among k stats (index + 1) n) ≤ suc n
  by true few = omega (arith, few)
  by false few = omega (arith, few)

few_from : (k : Plain) (stats : ℕ → Stats) → length (period_lines_from k stats 1) ≤ 64
unfolding period_lines_from
few_from k stats = few_among k stats 1 64

-- an ending has at most 65 lines
pub few_lines : (s : Scenario) (k : Plain) → length (ending_lines s k) ≤ 65
few_lines s k = omega (arith, few_from k (stored_in k), length-append (period_lines_from k (stored_in k) 1) (final_line s true ∷ []))
