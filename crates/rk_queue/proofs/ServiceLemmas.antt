-- The threads that queues serve.
use Rattle.std.proofs.Common.{◌≡◌, ℕ, ◌+◌, List, [], ◌∷◌, Bool, true, false, cond, ◌==◌, ◌||◌, Option, Some, None, IfSome, IfNone, arith, refl, ap, sym, ◌∙◌}
use Rattle.std.specs.List.{filter}
use Rattle.std.proofs.lemmas.Bool.{false≢true}
use Rattle.std.proofs.lemmas.Bool.Decides.{nat_tests}
use Rattle.rk_model.specs.declared.waiting.Order.{Order}
use Rattle.rk_model.specs.declared.waiting.Order.TheVariants.{Fifo, Priority}
use Rattle.rk_model.specs.Lists.{has, times}
use Rattle.rk_model.proofs.BooleanLemmas.{equal_test}
use Rattle.rk_model.specs.declared.waiting.Waiter.{Waiter}
use Rattle.rk_model.specs.Queues.{threads, clusters, of_cluster, of_prio, lesser, least_prio, earliest, earliest_of, most_urgent, first_in, IsQueue}

-- the lesser of two priorities, if there are any
abbrev pub least_of : Option ℕ → Option ℕ → Option ℕ
least_of None other = other
least_of (Some prio) other = Some (lesser prio other)

lesser_lesser : (p q : ℕ) (other : Option ℕ) → lesser (lesser p (Some q)) other ≡ lesser q (Some (lesser p other))
lesser_lesser p q None = omega arith
lesser_lesser p q (Some r) = omega arith

-- one more priority
pub least_more : (p : ℕ) (before after : Option ℕ) → least_of (Some (lesser p before)) after ≡ least_of before (Some (lesser p after))
least_more p None after = refl
least_more p (Some q) after = ap (λ (r : ℕ). Some r) (lesser_lesser p q after)

-- some of the waiters that pass a test
filtered_stands : (test : Waiter → Bool) (t : ℕ) (waiters : List Waiter) → has (threads (filter test waiters)) t ≡ true → has (threads waiters) t ≡ true
filtered_stands test t [] h = h
filtered_stands test t (waiter ∷ waiters) h = by (test waiter) h (filtered_stands test t waiters) where
  by : (b : Bool) → has (threads (cond b (waiter ∷ filter test waiters) (filter test waiters))) t ≡ true → (has (threads (filter test waiters)) t ≡ true → has (threads waiters) t ≡ true) → ((waiter.thread == t) || has (threads waiters) t) ≡ true
  by true h more = grind (arith, nat_tests, h, more)
  by false h more = grind (arith, nat_tests, more h)

-- The earliest of waiters waits, and there is one where some wait.
pub earliest_waits : (waiters : List Waiter) → IfSome (earliest waiters) (λ t. has (threads waiters) t ≡ true)
earliest_waits [] = tt
earliest_waits (waiter ∷ waiters) = rw (equal_test waiter.thread waiter.thread refl) refl

-- what holds of an option that is some
some_is : {X : Type 0} (P : X → Type 0) (o : Option X) (x : X) → o ≡ Some x → IfSome o P → P x
some_is P o x e h = rw e at h

lesser_other : (prio p : ℕ) (o : Option ℕ) → (p == prio) ≡ false → Some (lesser p o) ≡ Some prio → o ≡ Some prio
lesser_other prio p None differs e = let same : p ≡ prio = cc in absurd (let no : ⊥ = grind (arith, nat_tests, same, differs) in no)
lesser_other prio p (Some q) differs e =
    let same : lesser p (Some q) ≡ prio = cc in
    let found : q ≡ prio = grind (arith, nat_tests, same, differs) in
    ap (λ (r : ℕ). Some r) found

-- The least priority is that of a waiter.
least_stands : (prio : ℕ) (waiters : List Waiter) → least_prio waiters ≡ Some prio → earliest (of_prio prio waiters) ≡ None → ⊥
least_stands prio [] e none = let no : ⊥ = cc in no
least_stands prio (waiter ∷ waiters) e none = by (waiter.prio == prio) refl none (λ found. least_stands prio waiters found) where
  by : (b : Bool) → (waiter.prio == prio) ≡ b → earliest (cond b (waiter ∷ of_prio prio waiters) (of_prio prio waiters)) ≡ None → (least_prio waiters ≡ Some prio → earliest (of_prio prio waiters) ≡ None → ⊥) → ⊥
  by true is none more = let no : ⊥ = cc in no
  by false is none more = more (lesser_other prio waiter.prio (least_prio waiters) is e) none

-- what holds of an option that is another one
if_some : {X : Type 0} (P Q : X → Type 0) (o : Option X) → ((x : X) → P x → Q x) → IfSome o P → IfSome o Q
if_some P Q None more h = tt
if_some P Q (Some x) more h = more x h

-- The most urgent of waiters waits,
pub urgent_waits : (waiters : List Waiter) → IfSome (most_urgent waiters) (λ t. has (threads waiters) t ≡ true)
urgent_waits waiters = by (least_prio waiters) where
  by : (o : Option ℕ) → IfSome (earliest_of waiters o) (λ t. has (threads waiters) t ≡ true)
  by None = tt
  by (Some prio) = if_some _ _ (earliest (of_prio prio waiters)) (λ t. filtered_stands (λ (waiter : Waiter). waiter.prio == prio) t waiters) (earliest_waits (of_prio prio waiters))

-- and there is one where some wait.
pub urgent_none : (waiters : List Waiter) → IfNone (most_urgent waiters) (waiters ≡ [])
urgent_none [] = refl
urgent_none (waiter ∷ waiters) = by (earliest (of_prio least (waiter ∷ waiters))) refl where
  least : ℕ
  least = lesser waiter.prio (least_prio waiters)

  by : (o : Option ℕ) → earliest (of_prio least (waiter ∷ waiters)) ≡ o → IfNone o (waiter ∷ waiters ≡ [])
  by None none = absurd (least_stands least (waiter ∷ waiters) refl none)
  by (Some t) found = tt

-- a cluster without waiters
none_of_cluster : (c : ℕ) (waiters : List Waiter) → of_cluster c waiters ≡ [] → has (clusters waiters) c ≡ false
none_of_cluster c [] h = refl
none_of_cluster c (waiter ∷ waiters) h = by (waiter.cluster == c) h (none_of_cluster c waiters) where
  by : (b : Bool) → cond b (waiter ∷ of_cluster c waiters) (of_cluster c waiters) ≡ [] → (of_cluster c waiters ≡ [] → has (clusters waiters) c ≡ false) → (b || has (clusters waiters) c) ≡ false
  by true h more = absurd (let no : ⊥ = cc in no)
  by false h more = more h

-- The thread that a queue serves next waits in it,
pub first_waits : (order : Order) (waiters : List Waiter) (turns : List ℕ) → IfSome (first_in order waiters turns) (λ t. has (threads waiters) t ≡ true)
first_waits Fifo waiters turns = earliest_waits waiters
first_waits Priority waiters [] = tt
first_waits Priority waiters (cluster ∷ turns) =
    if_some _ _ (most_urgent (of_cluster cluster waiters)) (λ t. filtered_stands (λ (waiter : Waiter). waiter.cluster == cluster) t waiters) (urgent_waits (of_cluster cluster waiters))

-- and there is one where some wait.
pub first_none : (order : Order) (waiters : List Waiter) (turns : List ℕ) → IsQueue waiters turns → IfNone (first_in order waiters turns) (waiters ≡ [])
first_none Fifo [] turns is = refl
first_none Fifo (waiter ∷ waiters) turns is = tt
first_none Priority [] [] is = refl
first_none Priority (waiter ∷ waiters) [] is =
    let no : ◌≡◌ {A = ℕ} 0 1 = rw (equal_test waiter.cluster waiter.cluster refl) at (is.turn waiter.cluster) in
    absurd (omega (arith, no))
first_none Priority waiters (cluster ∷ turns) is = by (most_urgent (of_cluster cluster waiters)) (urgent_none (of_cluster cluster waiters)) where
  stands : has (clusters waiters) cluster ≡ true
  stands = by (has (clusters waiters) cluster) (rw (equal_test cluster cluster refl) at (is.turn cluster)) where
    by : (b : Bool) → 1 + times cluster turns ≡ cond b 1 0 → b ≡ true
    by true h = refl
    by false h = absurd (omega (arith, h))

  by : (o : Option ℕ) → IfNone o (of_cluster cluster waiters ≡ []) → IfNone o (waiters ≡ [])
  by None none = absurd (false≢true (sym (none_of_cluster cluster waiters none) ∙ stands))
  by (Some t) found = tt
