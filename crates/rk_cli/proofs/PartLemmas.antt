-- The parts of an input, as the code finds them.
use Rattle.std.proofs.Common.{◌≡◌, ◌≢◌, ℕ, ◌+◌, ◌-◌, ◌<◌, ◌≤◌, List, [], ◌∷◌, ◌++◌, true, false, ◌==◌, length, take, drop, get_or, arith, refl, sym, ap, ◌∙◌}
use Rattle.std.proofs.lemmas.Bool.Decides.{nat_tests}
use Rattle.std.proofs.lemmas.List.{take_more, drop_more, get_or-drop, take-append-drop, length-take, length-drop}
use Rattle.std.proofs.Math.Seq.{take-append-add}
use Rattle.rk_cli.specs.Cuts.{is_mark, parted_from, parted}

-- the first bytes, and some behind them
take_both : (m n : ℕ) (xs : List ℕ) → m ≤ length xs → take m xs ++ take n (drop m xs) ≡ take (m + n) xs
take_both m n xs few =
    let long : length (take m xs) ≡ m = length-take m xs ∙ omega (arith, few) in
    sym (take-append-add (take m xs) (drop m xs) n) ∙ ap (λ (ys : List ℕ). take (length (take m xs) + n) ys) (take-append-drop m xs) ∙ ap (λ (l : ℕ). take (l + n) xs) long

-- the lines up to a line feed, and the line in front of it
lines_more : (start at b : ℕ) (xs : List ℕ) → start ≤ at → at < length xs → get_or xs at 0 ≡ b → take start xs ++ take (at - start) (drop start xs) ++ b ∷ [] ≡ take (at + 1) xs
lines_more start at b xs low high e =
    let same : start + (at - start) ≡ at = omega (arith, low) in
    ap (λ (ys : List ℕ). ys ++ b ∷ []) (take_both start (at - start) xs (omega (arith, low, high)) ∙ ap (λ (n : ℕ). take n xs) same)
    ∙ ap (λ (c : ℕ). take at xs ++ c ∷ []) (sym e) ∙ sym (take_more xs at 0 high)

-- the line with one byte more
line_more : (start at : ℕ) (xs : List ℕ) → start ≤ at → at < length xs → take (at - start) (drop start xs) ++ get_or xs at 0 ∷ [] ≡ take (at + 1 - start) (drop start xs)
line_more start at xs low high =
    let there : start + (at - start) ≡ at = omega (arith, low) in
    let more : at - start + 1 ≡ at + 1 - start = omega (arith, low) in
    let within : at - start < length (drop start xs) = omega (arith, length-drop start xs, low, high) in
    ap (λ (b : ℕ). take (at - start) (drop start xs) ++ b ∷ []) (sym (get_or-drop start xs (at - start) 0 ∙ ap (λ (n : ℕ). get_or xs n 0) there))
    ∙ sym (take_more (drop start xs) (at - start) 0 within) ∙ ap (λ (n : ℕ). take n (drop start xs)) more

-- a byte that isn't a line feed is one more of the line
parted_byte : (lines line rest : List ℕ) (b : ℕ) → (b == 10) ≡ false → parted_from lines line (b ∷ rest) ≡ parted_from lines (line ++ b ∷ []) rest
parted_byte lines line rest b other = rw other refl

-- a line feed behind a line that isn't the mark
parted_feed : (lines line rest : List ℕ) (b : ℕ) → (b == 10) ≡ true → is_mark line ≡ false → parted_from lines line (b ∷ rest) ≡ parted_from (lines ++ line ++ 10 ∷ []) [] rest
parted_feed lines line rest b feed other = rw (feed, other) refl

pub part_byte : (xs : List ℕ) (start at : ℕ) → start ≤ at → at < length xs → get_or xs at 0 ≢ 10
    → parted_from (take start xs) (take (at - start) (drop start xs)) (drop at xs) ≡ parted xs → parted_from (take start xs) (take (at + 1 - start) (drop start xs)) (drop (at + 1) xs) ≡ parted xs
part_byte xs start at low high other e =
    let test : (get_or xs at 0 == 10) ≡ false = grind (arith, nat_tests, other) in
    ap (λ (line : List ℕ). parted_from (take start xs) line (drop (at + 1) xs)) (sym (line_more start at xs low high))
    ∙ sym (parted_byte (take start xs) (take (at - start) (drop start xs)) (drop (at + 1) xs) (get_or xs at 0) test)
    ∙ ap (λ (rest : List ℕ). parted_from (take start xs) (take (at - start) (drop start xs)) rest) (sym (drop_more xs at 0 high)) ∙ e

pub part_feed : (xs : List ℕ) (start at next : ℕ) → start ≤ at → at < length xs → get_or xs at 0 ≡ 10 → is_mark (take (at - start) (drop start xs)) ≡ false → next ≡ at + 1
    → parted_from (take start xs) (take (at - start) (drop start xs)) (drop at xs) ≡ parted xs → parted_from (take next xs) (take (at + 1 - next) (drop next xs)) (drop (at + 1) xs) ≡ parted xs
part_feed xs start at next low high feed other is e =
    let test : (get_or xs at 0 == 10) ≡ true = grind (arith, nat_tests, feed) in
    let none : at + 1 - next ≡ 0 = omega (arith, is) in
    let alone : take (at + 1 - next) (drop next xs) ≡ [] = ap (λ (n : ℕ). take n (drop next xs)) none in
    ap (λ (line : List ℕ). parted_from (take next xs) line (drop (at + 1) xs)) alone
    ∙ ap (λ (lines : List ℕ). parted_from lines [] (drop (at + 1) xs)) (ap (λ (n : ℕ). take n xs) is ∙ sym (lines_more start at 10 xs low high feed))
    ∙ sym (parted_feed (take start xs) (take (at - start) (drop start xs)) (drop (at + 1) xs) (get_or xs at 0) test other)
    ∙ ap (λ (rest : List ℕ). parted_from (take start xs) (take (at - start) (drop start xs)) rest) (sym (drop_more xs at 0 high)) ∙ e
