-- The most urgent threads of a line are the same by two functions that give its threads the same.
use Rattle.std.proofs.Common.{◌≡◌, ℕ, zero, suc, ◌+◌, List, [], ◌∷◌, ◌++◌, true, ◌==◌, refl, ap, sym, ◌∙◌, append_assoc}
use Rattle.rk_model.specs.Lists.{has}
use Rattle.rk_model.specs.Scheduling.ReadyQueues.{rank, ranked_from, most_urgent}
use Rattle.rk_model.proofs.BooleanLemmas.{equal_test, or_front, or_back}
use Rattle.rk_model.proofs.CountLemmas.{has-append}
use Rattle.rk_model.proofs.SortedLineLemmas.{upto, under, rank_counts}

-- two functions give the threads of a list the same
abbrev pub Agree : (ℕ → ℕ) → (ℕ → ℕ) → List ℕ → Type 0
Agree key other ts = (t : ℕ) → has ts t ≡ true → key t ≡ other t

agree_behind : (key other : ℕ → ℕ) (u : ℕ) (ts : List ℕ) → Agree key other (u ∷ ts) → Agree key other ts
agree_behind key other u ts agree t h = agree t (or_back (u == t) h)

agree_first : (key other : ℕ → ℕ) (u : ℕ) (ts : List ℕ) → Agree key other (u ∷ ts) → key u ≡ other u
agree_first key other u ts agree = agree u (or_front (has ts u) (equal_test u u refl))

agree_front : (key other : ℕ → ℕ) (xs ys : List ℕ) → Agree key other (xs ++ ys) → Agree key other xs
agree_front key other xs ys agree t h = agree t (has-append xs ys t ∙ or_front (has ys t) h)

agree_back : (key other : ℕ → ℕ) (xs ys : List ℕ) → Agree key other (xs ++ ys) → Agree key other ys
agree_back key other xs ys agree t h = agree t (has-append xs ys t ∙ or_back (has xs t) h)

upto_agree : (key other : ℕ → ℕ) (p : ℕ) (ts : List ℕ) → Agree key other ts → upto key p ts ≡ upto other p ts
upto_agree key other p [] agree = refl
upto_agree key other p (u ∷ ts) agree = rw (agree_first key other u ts agree, upto_agree key other p ts (agree_behind key other u ts agree)) refl

under_agree : (key other : ℕ → ℕ) (p : ℕ) (ts : List ℕ) → Agree key other ts → under key p ts ≡ under other p ts
under_agree key other p [] agree = refl
under_agree key other p (u ∷ ts) agree = rw (agree_first key other u ts agree, under_agree key other p ts (agree_behind key other u ts agree)) refl

rank_agree : (key other : ℕ → ℕ) (front : List ℕ) (u : ℕ) (back : List ℕ) → Agree key other (front ++ u ∷ back) → rank key front u back ≡ rank other front u back
rank_agree key other front u back agree =
    let behind = agree_back key other front (u ∷ back) agree in
    let at = agree_first key other u back behind in
    let a = upto_agree key other (other u) front (agree_front key other front (u ∷ back) agree) in
    let b = under_agree key other (other u) back (agree_behind key other u back behind) in
    rank_counts key front u back ∙ ap (λ p. upto key p front + under key p back) at ∙ (rw (a, b) refl) ∙ sym (rank_counts other front u back)

ranked_agree : (key other : ℕ → ℕ) (n : ℕ) (front back : List ℕ) → Agree key other (front ++ back) → ranked_from key n front back ≡ ranked_from other n front back
ranked_agree key other n front [] agree = refl
ranked_agree key other n front (u ∷ back) agree =
    rw (rank_agree key other front u back agree, ranked_agree key other n (front ++ u ∷ []) back (rw append_assoc agree)) refl

-- The most urgent threads of a line are the same by both.
pub most_urgent_agree : (key other : ℕ → ℕ) (m : ℕ) (ts : List ℕ) → Agree key other ts → most_urgent key m ts ≡ most_urgent other m ts
most_urgent_agree key other zero ts agree = refl
most_urgent_agree key other (suc m) ts agree = rw (most_urgent_agree key other m ts agree, ranked_agree key other m [] ts agree) refl
