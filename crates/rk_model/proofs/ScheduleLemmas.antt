-- The text of lines, and the lines of periods.
use Rattle.std.proofs.Common.{◌≡◌, ℕ, zero, suc, ◌+◌, ◌-◌, ◌≤◌, List, [], ◌∷◌, ◌++◌, Bool, true, false, cond, ap, ◌∙◌, sym, refl, arith, append_assoc}
use Rattle.rk_model.specs.declared.period.Stats.{Stats}
use Rattle.rk_model.specs.State.{Plain, period_at}
use Rattle.rk_model.specs.Text.Schedules.{text_of_lines, period_line, lines_of_period, period_lines_among, period_lines_from}

-- the text of lines, and of others behind them, is the text of the ones and then that of the others
pub lines_together : (first others : List (List ℕ)) → text_of_lines (first ++ others) ≡ text_of_lines first ++ text_of_lines others
lines_together [] others = refl
lines_together (line ∷ lines) others = ap (λ (text : List ℕ). line ++ 10 ∷ text) (lines_together lines others) ∙ sym (append_assoc line (10 ∷ text_of_lines lines) (text_of_lines others))

-- ---- the lines of periods

among_more : (k : Plain) (stats : ℕ → Stats) (index m n : ℕ) → n ≡ suc m → period_lines_among k stats index n ≡ lines_of_period k stats index ++ period_lines_among k stats (index + 1) m
among_more k stats index m n e = rw e refl

among_none : (k : Plain) (stats : ℕ → Stats) (index n : ℕ) → n ≡ 0 → period_lines_among k stats index n ≡ []
among_none k stats index n e = rw e refl

-- from an index on there are the lines of its period, and those behind it
pub periods_more : (k : Plain) (stats : ℕ → Stats) (index : ℕ) → index ≤ 64 → period_lines_from k stats index ≡ lines_of_period k stats index ++ period_lines_from k stats (index + 1)
unfolding period_lines_from
periods_more k stats index few = among_more k stats index (65 - (index + 1)) (65 - index) (omega arith)

-- behind the last index there are none
pub periods_end : (k : Plain) (stats : ℕ → Stats) (index : ℕ) → 65 ≤ index → period_lines_from k stats index ≡ []
unfolding period_lines_from
periods_end k stats index all = among_none k stats index (65 - index) (omega arith)

line_alike : (index : ℕ) (live : Bool) (one other : Stats) → (live ≡ true → one ≡ other) → cond live (period_line index one ∷ []) [] ≡ cond live (period_line index other ∷ []) []
line_alike index false one other same = refl
line_alike index true one other same = ap (λ (stats : Stats). period_line index stats ∷ []) (same refl)

among_alike : (k : Plain) (one other : ℕ → Stats) (index n : ℕ) → ((i : ℕ) → (period_at k i).live ≡ true → one i ≡ other i) → period_lines_among k one index n ≡ period_lines_among k other index n
among_alike k one other index zero same = refl
among_alike k one other index (suc n) same =
    ap (λ (lines : List (List ℕ)). lines ++ period_lines_among k one (index + 1) n) (line_alike index (period_at k index).live (one index) (other index) (same index))
    ∙ ap (λ (lines : List (List ℕ)). lines_of_period k other index ++ lines) (among_alike k one other (index + 1) n same)

-- by statistics that are the same of each period that lives, the lines are the same
pub periods_alike : (k : Plain) (one other : ℕ → Stats) (index : ℕ) → ((i : ℕ) → (period_at k i).live ≡ true → one i ≡ other i) → period_lines_from k one index ≡ period_lines_from k other index
unfolding period_lines_from
periods_alike k one other index same = among_alike k one other index (65 - index) same
