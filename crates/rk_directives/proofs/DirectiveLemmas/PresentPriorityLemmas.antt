-- A queue that is brought up to date, waiter by waiter: each gets the priority that its thread has in its home.
use Rattle.std.proofs.Common.{◌≡◌, ◌⊎◌, inl, inr, ℕ, zero, suc, ◌+◌, ◌-◌, ◌≤◌, List, [], ◌∷◌, Bool, true, false, cond, ◌==◌, map, take, slice_get, Option, Some, None, length, arith, refl, sym, ap, ◌∙◌, subst}
use Rattle.std.proofs.lemmas.Bool.{false≢true}
use Rattle.std.proofs.lemmas.List.{length-map, take_all}
use Rattle.rk_model.specs.declared.waiting.Order.TheVariants.{Priority}
use Rattle.rk_model.specs.declared.waiting.Waiter.{Waiter}
use Rattle.rk_model.specs.Lists.{has}
use Rattle.rk_model.specs.Queues.{threads, with_prio}
use Rattle.rk_model.specs.State.{Plain, SemaphoreState, no_semaphore}
use Rattle.rk_model.specs.Directives.Semaphores.{with_prio_of, with_present_prio, up_to_date_by}
use Rattle.rk_model.specs.Scheduling.Priorities.{home_prio}
use Rattle.rk_model.proofs.BooleanLemmas.{equal_test, same_number, or_front, or_back}
use Rattle.rk_groups.specs.declared.group.GroupPart.{GroupPart}
use Rattle.rk_groups.specs.GroupObjects.{semaphores_of, semaphore_lent}
use Rattle.rk_groups.specs.Groups.{PutsSemaphore}
use Rattle.rk_groups.proofs.GroupLemmas.{with_nth-still}
use Rattle.rk_directives.proofs.DirectiveLemmas.LentSemaphoresLemmas.{put_there, put_twice}

-- a waiter that may have got the present priority of a thread
abbrev with_prio_if : Plain → ℕ → Bool → Waiter → Waiter
with_prio_if k t b waiter = cond b (let w : Waiter = record waiter { prio = home_prio k t } in w) waiter

-- a waiter has the priority that its thread has in its home, whichever it had before
present_again : (k : Plain) (t : ℕ) (b : Bool) (waiter : Waiter) → with_present_prio k (with_prio_if k t b waiter) ≡ with_present_prio k waiter
present_again k t true waiter = refl
present_again k t false waiter = refl

prio_again : (k : Plain) (t : ℕ) (waiters : List Waiter) → map (with_present_prio k) (with_prio t (home_prio k t) waiters) ≡ map (with_present_prio k) waiters
prio_again k t [] = refl
prio_again k t (waiter ∷ waiters) =
    ap (λ w. w ∷ map (with_present_prio k) (with_prio t (home_prio k t) waiters)) (present_again k t (waiter.thread == t) waiter)
    ∙ ap (λ ws. with_present_prio k waiter ∷ ws) (prio_again k t waiters)

-- the first of these waiters are up to date
abbrev pub AreDated : Plain → ℕ → List Waiter → Type 0
AreDated k n waiters = take n waiters ≡ take n (map (with_present_prio k) waiters)

head_of : (x y : Waiter) (xs ys : List Waiter) → x ∷ xs ≡ y ∷ ys → x ≡ y
head_of x y xs ys e = cc

tail_of : (x y : Waiter) (xs ys : List Waiter) → x ∷ xs ≡ y ∷ ys → xs ≡ ys
tail_of x y xs ys e = cc

-- one that has got the present priority of its thread is up to date, and so is one that was
gets_dated : (k : Plain) (t : ℕ) (b : Bool) (waiter : Waiter) → (waiter.thread == t) ≡ b → (b ≡ true) ⊎ (waiter ≡ with_present_prio k waiter) → with_prio_if k t b waiter ≡ with_present_prio k waiter
gets_dated k t true waiter e was = ap (λ m. (let w : Waiter = record waiter { prio = home_prio k m } in w)) (sym (same_number waiter.thread t e))
gets_dated k t false waiter e (inl differs) = absurd (false≢true differs)
gets_dated k t false waiter e (inr was) = was

both_dated : (k : Plain) (n t : ℕ) (waiter : Waiter) (waiters : List Waiter) → with_prio_if k t (waiter.thread == t) waiter ≡ with_present_prio k waiter → take n (with_prio t (home_prio k t) waiters) ≡ take n (map (with_present_prio k) (with_prio t (home_prio k t) waiters)) → AreDated k (suc n) (with_prio t (home_prio k t) (waiter ∷ waiters))
both_dated k n t waiter waiters one rest =
    ap (λ w. w ∷ take n (with_prio t (home_prio k t) waiters)) one
    ∙ ap (λ ws. with_present_prio k waiter ∷ ws) rest
    ∙ ap (λ w. w ∷ take n (map (with_present_prio k) (with_prio t (home_prio k t) waiters))) (sym (present_again k t (waiter.thread == t) waiter))

-- so is one more, where the next has got its present priority,
one_dated : (k : Plain) (n t : ℕ) (waiters : List Waiter) → AreDated k n waiters → slice_get (threads waiters) n ≡ Some t → AreDated k (suc n) (with_prio t (home_prio k t) waiters)
one_dated k n t [] dated there = refl
one_dated k zero t (waiter ∷ waiters) dated there =
    let same : waiter.thread ≡ t = cc in
    both_dated k zero t waiter waiters (gets_dated k t (waiter.thread == t) waiter refl (inl (equal_test waiter.thread t same))) refl
one_dated k (suc n) t (waiter ∷ waiters) dated there =
    let was = head_of waiter (with_present_prio k waiter) (take n waiters) (take n (map (with_present_prio k) waiters)) dated in
    let rest = tail_of waiter (with_present_prio k waiter) (take n waiters) (take n (map (with_present_prio k) waiters)) dated in
    both_dated k (suc n) t waiter waiters (gets_dated k t (waiter.thread == t) waiter refl (inr was)) (one_dated k n t waiters rest there)

next_of : (n : ℕ) → suc n ≡ n + 1
next_of n = omega arith

-- A semaphore of which the first waiters are up to date, and which is otherwise as it was.
pub record IsDating (k : Plain) (n : ℕ) (before now : SemaphoreState) : Type 0 where
  pub same : now ≡ record before { queue = record before.queue { arrivals = now.queue.arrivals } }
  pub all : map (with_present_prio k) now.queue.arrivals ≡ map (with_present_prio k) before.queue.arrivals
  pub first : AreDated k n now.queue.arrivals

pub dating_starts : (k : Plain) (sem : SemaphoreState) → IsDating k 0 sem sem
dating_starts k sem = record { same = refl; all = refl; first = refl }

-- the next waiter gets its present priority
pub dating_next : (k : Plain) (n t prio : ℕ) (before now : SemaphoreState) → IsDating k n before now → slice_get (threads now.queue.arrivals) n ≡ Some t → prio ≡ home_prio k t → IsDating k (n + 1) before (with_prio_of t prio now)
dating_next k n t prio before now dating there is = record {
  same = ap (with_prio_of t prio) dating.same;
  all = ap (λ p. map (with_present_prio k) (with_prio t p now.queue.arrivals)) is ∙ prio_again k t now.queue.arrivals ∙ dating.all;
  first = subst (λ p. AreDated k (n + 1) (with_prio t p now.queue.arrivals)) (sym is) (subst (λ m. AreDated k m (with_prio t (home_prio k t) now.queue.arrivals)) (next_of n) (one_dated k n t now.queue.arrivals dating.first there));
}

-- and all have theirs, where there are no more
pub dating_ends : (k : Plain) (n : ℕ) (before now : SemaphoreState) → IsDating k n before now → length now.queue.arrivals ≤ n → now ≡ record before { queue = up_to_date_by k Priority before.queue }
dating_ends k n before now dating few =
    let whole : now.queue.arrivals ≡ map (with_present_prio k) now.queue.arrivals = sym (take_all n now.queue.arrivals few) ∙ dating.first ∙ take_all n (map (with_present_prio k) now.queue.arrivals) (rw (length-map now.queue.arrivals (with_present_prio k)) few) in
    dating.same ∙ ap (λ ws. (let x : SemaphoreState = record before { queue = record before.queue { arrivals = ws } } in x)) (whole ∙ dating.all)

-- there are as many waiters as before
pub dating_length : (k : Plain) (n : ℕ) (before now : SemaphoreState) → IsDating k n before now → length now.queue.arrivals ≡ length before.queue.arrivals
dating_length k n before now dating = sym (length-map now.queue.arrivals (with_present_prio k)) ∙ ap length dating.all ∙ length-map before.queue.arrivals (with_present_prio k)

-- Groups in which the first waiters of a semaphore were brought up to date.
pub record IsUpdating (k : Plain) (n : ℕ) (old : List GroupPart) (i : ℕ) (now : List GroupPart) : Type 0 where
  pub puts : PutsSemaphore old i (semaphore_lent now i) now
  pub dating : IsDating k n (semaphore_lent old i) (semaphore_lent now i)

pub updating_starts : (k : Plain) (groups : List GroupPart) (i : ℕ) → IsUpdating k 0 groups i groups
updating_starts k groups i = record {
  puts = record { semaphores = sym (with_nth-still no_semaphore (semaphores_of groups) i); barriers = refl; partitions = refl; periods = refl; kept = refl };
  dating = dating_starts k (semaphore_lent groups i);
}

pub updating_next : (k : Plain) (n : ℕ) (old mid now : List GroupPart) (i t prio : ℕ) → 1 ≤ i → i ≤ 64 → IsUpdating k n old i mid → slice_get (threads (semaphore_lent mid i).queue.arrivals) n ≡ Some t → prio ≡ home_prio k t → PutsSemaphore mid i (with_prio_of t prio (semaphore_lent mid i)) now → IsUpdating k (n + 1) old i now
updating_next k n old mid now i t prio low high updating there is puts =
    let x = with_prio_of t prio (semaphore_lent mid i) in
    let stands = sym (put_there mid now i x low high puts) in
    record {
      puts = subst (λ y. PutsSemaphore old i y now) stands (put_twice old mid now i (semaphore_lent mid i) x updating.puts puts);
      dating = subst (IsDating k (n + 1) (semaphore_lent old i)) stands (dating_next k n t prio (semaphore_lent old i) (semaphore_lent mid i) updating.dating there is);
    }

-- there are no more waiters
no_more : (waiters : List Waiter) (n : ℕ) → slice_get (threads waiters) n ≡ None → length waiters ≤ n
no_more [] n there = omega arith
no_more (waiter ∷ waiters) zero there = let no : ⊥ = cc in absurd no
no_more (waiter ∷ waiters) (suc n) there = omega (arith, no_more waiters n there)

pub updating_stops : (k : Plain) (n : ℕ) (old now : List GroupPart) (i : ℕ) → IsUpdating k n old i now → slice_get (threads (semaphore_lent now i).queue.arrivals) n ≡ None → PutsSemaphore old i (let x : SemaphoreState = record (semaphore_lent old i) { queue = up_to_date_by k Priority (semaphore_lent old i).queue } in x) now
updating_stops k n old now i updating there = subst (λ y. PutsSemaphore old i y now) (dating_ends k n (semaphore_lent old i) (semaphore_lent now i) updating.dating (no_more (semaphore_lent now i).queue.arrivals n there)) updating.puts

pub updating_ends : (k : Plain) (n : ℕ) (old now : List GroupPart) (i : ℕ) → IsUpdating k n old i now → length (semaphore_lent old i).queue.arrivals ≤ n → PutsSemaphore old i (let x : SemaphoreState = record (semaphore_lent old i) { queue = up_to_date_by k Priority (semaphore_lent old i).queue } in x) now
updating_ends k n old now i updating few =
    let size = dating_length k n (semaphore_lent old i) (semaphore_lent now i) updating.dating in
    subst (λ y. PutsSemaphore old i y now) (dating_ends k n (semaphore_lent old i) (semaphore_lent now i) updating.dating (omega (arith, size, few))) updating.puts

-- the thread at a place waits
got_has : (ts : List ℕ) (n t : ℕ) → slice_get ts n ≡ Some t → has ts t ≡ true
got_has [] n t there = let no : ⊥ = cc in absurd no
got_has (u ∷ us) zero t there = let same : u ≡ t = cc in or_front (has us t) (equal_test u t same)
got_has (u ∷ us) (suc n) t there = or_back (u == t) (got_has us n t there)

pub updating_waits : (k : Plain) (n : ℕ) (old now : List GroupPart) (i t : ℕ) (found : Option ℕ) → found ≡ slice_get (threads (semaphore_lent now i).queue.arrivals) n → found ≡ Some t → has (threads (semaphore_lent now i).queue.arrivals) t ≡ true
updating_waits k n old now i t found is there = got_has (threads (semaphore_lent now i).queue.arrivals) n t (sym is ∙ there)
