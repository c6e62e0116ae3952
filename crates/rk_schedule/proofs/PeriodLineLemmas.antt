-- The lines of periods, as the writer finds them.
use Rattle.std.proofs.Common.{◌≡◌, ℕ, List, [], ◌∷◌, ◌++◌, ◌≤◌, ◌+◌, Bool, true, false, cond, Some, None, ap, ◌∙◌, sym, refl, append_assoc, append-nil}
use Rattle.rk_model.specs.declared.scenario.Scenario.{Scenario}
use Rattle.rk_model.specs.declared.entry.Entry.{Entry}
use Rattle.rk_model.specs.declared.period.Stats.{Stats}
use Rattle.rk_model.specs.State.{Plain}
use Rattle.rk_model.specs.Histories.{Legal, opening, after, ends}
use Rattle.rk_model.specs.Statistics.{statistics}
use Rattle.rk_model.specs.Text.Schedules.{text_of_lines, period_line, lines_of_period, period_lines_from, period_lines, entry_lines, header_line, final_line, schedule_text}
use Rattle.rk_model.proofs.ScheduleLemmas.{lines_together, periods_more, periods_end, periods_alike}
use Rattle.rk_model.specs.Text.Scenarios.{IsScenario}
use Rattle.rk_kernel.specs.SchedulingLaws.{StatisticsAreThoseOfTheHistory}
use Rattle.rk_schedule.specs.Stored.{stored_in}
use Rattle.rk_schedule.proofs.EntryLemmas.{first_to_last}

-- where no statistics are told there is no line
pub none_lives : (index : ℕ) (live : Bool) (stats : Stats) → None ≡ cond live (Some stats) None → cond live (period_line index stats ∷ []) [] ≡ []
none_lives index false stats e = refl
none_lives index true stats e = let no : ⊥ = cc in absurd no

-- where they are told they stand in the line
pub one_lives : (index : ℕ) (live : Bool) (stats told : Stats) → Some told ≡ cond live (Some stats) None → cond live (period_line index stats ∷ []) [] ≡ period_line index told ∷ []
one_lives index false stats told e = let no : ⊥ = cc in absurd no
one_lives index true stats told e = let same : stats ≡ told = cc in ap (λ (x : Stats). period_line index x ∷ []) same

-- the text of the lines of periods from an index on, behind had, is that of those behind it, behind its own
pub periods_step : (k : Plain) (stats : ℕ → Stats) (index : ℕ) (had has : List ℕ) → index ≤ 64 → has ≡ had ++ text_of_lines (lines_of_period k stats index)
    → has ++ text_of_lines (period_lines_from k stats (index + 1)) ≡ had ++ text_of_lines (period_lines_from k stats index)
periods_step k stats index had has few e =
    let its = lines_of_period k stats index in
    let later = period_lines_from k stats (index + 1) in
    rw e (append_assoc had (text_of_lines its) (text_of_lines later)
    ∙ ap (λ (text : List ℕ). had ++ text) (sym (lines_together its later))
    ∙ ap (λ (lines : List (List ℕ)). had ++ text_of_lines lines) (sym (periods_more k stats index few)))

-- behind the last index nothing is left to write
pub periods_done : (k : Plain) (stats : ℕ → Stats) (index : ℕ) (had : List ℕ) → 65 ≤ index → had ≡ had ++ text_of_lines (period_lines_from k stats index)
periods_done k stats index had all = rw (periods_end k stats index all) (sym (append-nil had))

-- the lines by the statistics that the state after a legal history has stored are those of the history
pub stored_shown : (s : Scenario) (xs : List Entry) → StatisticsAreThoseOfTheHistory → IsScenario s → Legal s xs → period_lines_from (after s xs) (stored_in (after s xs)) 1 ≡ period_lines s xs
stored_shown s xs law valid legal = periods_alike (after s xs) (stored_in (after s xs)) (statistics s xs) 1 (λ index. law s xs valid legal index)

-- the text of a legal history, part by part
pub whole_text : (s : Scenario) (xs : List Entry) (k : Plain) → StatisticsAreThoseOfTheHistory → IsScenario s → Legal s xs → k ≡ after s xs
    → header_line ++ 10 ∷ [] ++ text_of_lines (entry_lines (opening s) xs) ++ text_of_lines (period_lines_from k (stored_in k) 1) ++ final_line s (ends xs) ++ 10 ∷ [] ≡ schedule_text s xs
whole_text s xs k law valid legal e =
    let entries = entry_lines (opening s) xs in
    let periods = period_lines s xs in
    let front = header_line ++ 10 ∷ [] in
    rw (e, stored_shown s xs law valid legal)
    (ap (λ (text : List ℕ). text ++ final_line s (ends xs) ++ 10 ∷ []) (append_assoc front (text_of_lines entries) (text_of_lines periods) ∙ ap (λ (text : List ℕ). front ++ text) (sym (lines_together entries periods)))
    ∙ sym (first_to_last header_line (final_line s (ends xs)) (entries ++ periods)))
