-- Bytes are the text of their lines, and what is behind the last line feed.
use Rattle.std.proofs.Common.{◌≡◌, ℕ, List, [], ◌∷◌, ◌++◌, Bool, true, false, cond, eqb, arith, refl, sym, ap, ◌∙◌, append_assoc, append-nil}
use Rattle.std.proofs.lemmas.Bool.Decides.{nat_tests}
use Rattle.rk_model.specs.Text.Schedules.{text_of_lines}
use Rattle.rk_model.specs.Text.Words.{whole_from, whole_lines, loose_from, loose_end}

again_from : (line bytes : List ℕ) → text_of_lines (whole_from line bytes) ++ loose_from line bytes ≡ line ++ bytes
again_from line [] = sym (append-nil line)
again_from line (b ∷ bytes) = by (eqb b 10) refl (again_from [] bytes) (again_from (line ++ b ∷ []) bytes) where
  by : (test : Bool) → eqb b 10 ≡ test
      → text_of_lines (whole_from [] bytes) ++ loose_from [] bytes ≡ bytes
      → text_of_lines (whole_from (line ++ b ∷ []) bytes) ++ loose_from (line ++ b ∷ []) bytes ≡ (line ++ b ∷ []) ++ bytes
      → text_of_lines (cond test (line ∷ whole_from [] bytes) (whole_from (line ++ b ∷ []) bytes)) ++ cond test (loose_from [] bytes) (loose_from (line ++ b ∷ []) bytes) ≡ line ++ b ∷ bytes
  by true e ends goes =
      let feed : b ≡ 10 = grind (arith, nat_tests, e) in
      append_assoc line (10 ∷ text_of_lines (whole_from [] bytes)) (loose_from [] bytes)
      ∙ ap (λ (rest : List ℕ). line ++ 10 ∷ rest) ends
      ∙ ap (λ (c : ℕ). line ++ c ∷ bytes) (sym feed)
  by false e ends goes = goes ∙ append_assoc line (b ∷ []) bytes

-- bytes are their lines, each with its line feed, and the loose end
pub again : (bytes : List ℕ) → text_of_lines (whole_lines bytes) ++ loose_end bytes ≡ bytes
again bytes = again_from [] bytes
