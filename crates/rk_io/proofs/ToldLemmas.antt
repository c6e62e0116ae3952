-- One call after another, where a source or a sink may tell its bytes.
use Rattle.std.proofs.Common.{◌≡◌, ℕ, ◌+◌, ◌≤◌, List, ◌++◌, ◌-◌, take, drop, length, length-drop, Option, Some, None, append_assoc, sym, ap, ◌∙◌, arith}
use Rattle.std.proofs.lemmas.List.{take_all, take-take, take-append-drop, drop-drop}
use Rattle.std.proofs.Math.Seq.{take-add}
use Rattle.rk_io.specs.Bytes.{Consumes, Appends}

-- what two reads took, one behind the other
pub consumes_more : (a b c : Option (List ℕ)) (xs ys : List ℕ) → Consumes a b xs → Consumes b c ys → Consumes a c (xs ++ ys)
consumes_more None b c xs ys h k = tt
consumes_more (Some x) None c xs ys h k = absurd h
consumes_more (Some x) (Some y) None xs ys h k = absurd k
consumes_more (Some x) (Some y) (Some z) xs ys h k = h ∙ ap (λ w. xs ++ w) k ∙ sym (append_assoc xs ys z)

-- what two writes gave, one behind the other
pub appends_more : (a b c : Option (List ℕ)) (xs ys : List ℕ) → Appends a b xs → Appends b c ys → Appends a c (xs ++ ys)
appends_more None b c xs ys h k = tt
appends_more (Some x) None c xs ys h k = absurd h
appends_more (Some x) (Some y) None xs ys h k = absurd k
appends_more (Some x) (Some y) (Some z) xs ys h k = k ∙ ap (λ w. w ++ ys) h ∙ append_assoc x xs ys

-- the first bytes, and the first of what is left
pub take_join : (at n : ℕ) (xs : List ℕ) → take at xs ++ take n (take (length xs - at) (drop at xs)) ≡ take (at + n) xs
take_join at n xs =
    let all : take (length xs - at) (drop at xs) ≡ drop at xs = take_all (length xs - at) (drop at xs) (omega (arith, length-drop at xs)) in
    rw all (sym (take-add at n xs))

-- a read of at most so many bytes from a place on
pub read_front : (at n most : ℕ) (xs buf : List ℕ) → n ≤ most → take n buf ≡ take n (take most (drop at xs)) → drop at xs ≡ take n buf ++ drop (at + n) xs
read_front at n most xs buf few copied = rw (copied, take-take n most (drop at xs) few, ← drop-drop n at xs) (sym (take-append-drop n (drop at xs)))
