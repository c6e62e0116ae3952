-- Processors with their threads: how many there are, and one more.
use Rattle.std.proofs.Common.{◌≡◌, ℕ, ◌+◌, ◌<◌, ◌≤◌, ◌⊎◌, List, [], ◌∷◌, ◌++◌, Bool, true, false, ◌==◌, ◌||◌, ⊎_elim, length, length-append, arith, refl, sym, ap, ◌∙◌}
use Rattle.std.proofs.lemmas.Bool.{false≢true}
use Rattle.std.proofs.lemmas.Bool.Decides.{nat_tests}
use Rattle.rk_model.specs.Lists.{has, times}
use Rattle.rk_model.proofs.BooleanLemmas.{either, same_number}
use Rattle.rk_model.proofs.CountLemmas.{times-append, times_none, has-append, length_within}
use Rattle.rk_mrsp.specs.declared.seats.Seat.{Seat}
use Rattle.rk_mrsp.specs.Scenes.{numbers, has_seat, AreSeats}

length-numbers : (seats : List Seat) → length (numbers seats) ≡ length seats
length-numbers [] = refl
length-numbers (seat ∷ seats) = omega (arith, length-numbers seats)

numbers-append : (seats more : List Seat) → numbers (seats ++ more) ≡ numbers seats ++ numbers more
numbers-append [] more = refl
numbers-append (seat ∷ seats) more = ap (λ ns. (seat.cpu + 1) ∷ ns) (numbers-append seats more)

-- there are at most 8
pub few_seats : (seats : List Seat) → AreSeats seats → length seats ≤ 8
few_seats seats are = omega (arith, length-numbers seats, length_within 8 (numbers seats) are.once are.within)

-- a processor that isn't one of them has no number among theirs
has_numbers : (seats : List Seat) (p : ℕ) → has (numbers seats) (p + 1) ≡ has_seat seats p
has_numbers [] p = refl
has_numbers (seat ∷ seats) p = grind (arith, nat_tests, has_numbers seats p)

-- They are processors still with one more, which isn't one of them.
pub one_more_seat : (seats : List Seat) (p t : ℕ) → AreSeats seats → p < 8 → has_seat seats p ≡ false → AreSeats (seats ++ record { cpu = p; thread = t } ∷ [])
one_more_seat seats p t are low free = record { once = λ n. once n (p + 1 == n) refl; within = λ n h. within n (either (has (numbers seats) n) (has (numbers (record { cpu = p; thread = t } ∷ [])) n) (sym (has-append (numbers seats) (numbers (record { cpu = p; thread = t } ∷ [])) n) ∙ ap (λ ns. has ns n) (sym all) ∙ h)) } where
  all : numbers (seats ++ record { cpu = p; thread = t } ∷ []) ≡ numbers seats ++ (p + 1) ∷ []
  all = numbers-append seats (record { cpu = p; thread = t } ∷ [])

  once : (n : ℕ) (b : Bool) → (p + 1 == n) ≡ b → times n (numbers (seats ++ record { cpu = p; thread = t } ∷ [])) ≤ 1
  once n true e =
      let same : p + 1 ≡ n = same_number (p + 1) n e in
      let none : times n (numbers seats) ≡ 0 = times_none n (numbers seats) (ap (has (numbers seats)) (sym same) ∙ has_numbers seats p ∙ free) in
      rw (all, times-append, e) (omega (arith, none))
  once n false e = rw (all, times-append, e) (omega (arith, are.once n))

  within : (n : ℕ) → (has (numbers seats) n ≡ true) ⊎ (has ((p + 1) ∷ []) n ≡ true) → (1 ≤ n) × (n ≤ 8)
  within n at = ⊎_elim (λ old. are.within n old) (λ new. here n (p + 1 == n) refl new) at where
    here : (n : ℕ) (b : Bool) → (p + 1 == n) ≡ b → (b || false) ≡ true → (1 ≤ n) × (n ≤ 8)
    here n true e h = let same : p + 1 ≡ n = same_number (p + 1) n e in let l : 1 ≤ n = omega (arith, same) in let m : n ≤ 8 = omega (arith, same, low) in (l, m)
    here n false e h = absurd (false≢true h)

pub few_more : (seats : List Seat) (p t : ℕ) → AreSeats seats → p < 8 → has_seat seats p ≡ false → length seats < 8
few_more seats p t are low free =
    let more = few_seats (seats ++ record { cpu = p; thread = t } ∷ []) (one_more_seat seats p t are low free) in
    omega (arith, more, length-append seats (record { cpu = p; thread = t } ∷ []))
