-- Words joined by single spaces are parted into these words.
use Rattle.std.proofs.Common.{◌≡◌, ℕ, List, [], ◌∷◌, ◌++◌, Bool, true, false, cond, eqb, not, arith, sym, ap, ◌∙◌, append_assoc, append-nil}
use Rattle.std.specs.Prelude.{◌==◌}
use Rattle.std.specs.List.{list_all}
use Rattle.std.proofs.lemmas.Bool.Decides.{nat_tests}
use Rattle.rk_model.specs.Text.Words.{spaced_from}
use Rattle.rk_model.proofs.BooleanLemmas.{and_front, and_back}

-- whether bytes have no space
abbrev pub is_solid : List ℕ → Bool
is_solid bytes = list_all (λ b. not (b == 32)) bytes

-- a word behind what has come of it
pub spaced_word : (had word more : List ℕ) → is_solid word ≡ true → spaced_from had (word ++ more) ≡ spaced_from (had ++ word) more
spaced_word had [] more solid = ap (λ (l : List ℕ). spaced_from l more) (sym (append-nil had))
spaced_word had (b ∷ word) more solid =
    let other : (b == 32) ≡ false = grind (arith, nat_tests, and_front (not (b == 32)) (is_solid word) solid) in
    rw other (spaced_word (had ++ b ∷ []) word more (and_back (not (b == 32)) (is_solid word) solid) ∙ ap (λ (l : List ℕ). spaced_from l more) (append_assoc had (b ∷ []) word))

-- the last word of a line
pub spaced_last : (had word : List ℕ) → is_solid word ≡ true → spaced_from had word ≡ (had ++ word) ∷ []
spaced_last had word solid = ap (spaced_from had) (sym (append-nil word)) ∙ spaced_word had word [] solid

one_word : (had word : List ℕ) (more words : List (List ℕ)) → had ∷ more ≡ words ++ word ∷ [] → (words ≡ []) × (more ≡ []) → had ≡ word
one_word had word more words e none = let same : had ∷ [] ≡ word ∷ [] = sym (ap (λ (l : List (List ℕ)). had ∷ l) none.1) ∙ e ∙ ap (λ (l : List (List ℕ)). l ++ word ∷ []) none.0 in cc (same)

never_none : (had line : List ℕ) → spaced_from had line ≡ [] → ⊥
never_none had [] e = let no : ⊥ = cc (e) in no
never_none had (b ∷ line) e = by (eqb b 32) (never_none (had ++ b ∷ []) line) e where
  by : (b' : Bool) → (spaced_from (had ++ b ∷ []) line ≡ [] → ⊥) → cond b' (had ∷ spaced_from [] line) (spaced_from (had ++ b ∷ []) line) ≡ [] → ⊥
  by true later e = let no : ⊥ = cc (e) in no
  by false later e = later e

-- more behind a line that has these words, and then the beginning of one more
pub spaced_more : (had line more : List ℕ) (words : List (List ℕ)) (word : List ℕ) → spaced_from had line ≡ words ++ word ∷ [] → spaced_from had (line ++ more) ≡ words ++ spaced_from word more
spaced_more had [] more [] word e = let same : had ≡ word = cc (e) in ap (λ (l : List ℕ). spaced_from l more) same
spaced_more had [] more (x ∷ []) word e = let later : [] ≡ word ∷ [] = cc (e) in let no : ⊥ = cc (later) in absurd no
spaced_more had [] more (x ∷ y ∷ words) word e = let later : [] ≡ y ∷ (words ++ word ∷ []) = cc (e) in let no : ⊥ = cc (later) in absurd no
spaced_more had (b ∷ line) more words word e = by (eqb b 32) words e (λ (ws : List (List ℕ)) (e : spaced_from [] line ≡ ws ++ word ∷ []). spaced_more [] line more ws word e) (spaced_more (had ++ b ∷ []) line more words word) where
  by : (test : Bool) (ws : List (List ℕ)) → cond test (had ∷ spaced_from [] line) (spaced_from (had ++ b ∷ []) line) ≡ ws ++ word ∷ []
      → ((vs : List (List ℕ)) → spaced_from [] line ≡ vs ++ word ∷ [] → spaced_from [] (line ++ more) ≡ vs ++ spaced_from word more)
      → (spaced_from (had ++ b ∷ []) line ≡ ws ++ word ∷ [] → spaced_from (had ++ b ∷ []) (line ++ more) ≡ ws ++ spaced_from word more)
      → cond test (had ∷ spaced_from [] (line ++ more)) (spaced_from (had ++ b ∷ []) (line ++ more)) ≡ ws ++ spaced_from word more
  by true [] e parted goes = let none : spaced_from [] line ≡ [] = cc (e) in absurd (never_none [] line none)
  by true (w ∷ ws) e parted goes =
      let first : had ≡ w = cc (e) in
      let rest : spaced_from [] line ≡ ws ++ word ∷ [] = cc (e) in
      ap (λ (l : List (List ℕ)). had ∷ l) (parted ws rest) ∙ ap (λ (l : List ℕ). l ∷ (ws ++ spaced_from word more)) first
  by false ws e parted goes = goes e
