-- Chains of waits end, while threads and semaphores are put, and threads begin to wait.
use Rattle.std.proofs.Common.{◌≡◌, ◌⊎◌, inl, inr, ℕ, ◌+◌, ◌-◌, ◌<◌, ◌≤◌, List, Bool, true, false, cond, ◌==◌, Option, None, Some, length, arith, refl, sym, ◌∙◌, ap, subst}
use Rattle.std.proofs.lemmas.Bool.{false≢true}
use Rattle.rk_model.specs.declared.state.Thread.{Thread}
use Rattle.rk_model.specs.declared.state.Wait.{Wait}
use Rattle.rk_model.specs.declared.state.Wait.TheVariants.{ForTime, ForEvents, AtBarrier, ForPeriod, ForSemaphore}
use Rattle.rk_model.specs.declared.waiting.Caller.{Caller}
use Rattle.rk_model.specs.Lists.{has, nth, with_nth}
use Rattle.rk_model.specs.State.{SemaphoreState, no_thread, no_semaphore}
use Rattle.rk_model.specs.Directives.Objects.{has_begun}
use Rattle.rk_model.specs.Directives.Waits.{Object, OfBarrier, OfSemaphore, with_waiter, without_waiter, with_waiter_in, without_waiter_in}
use Rattle.rk_model.specs.Scheduling.Chains.{Ends, ends_by, reaches, owner_awaited}
use Rattle.rk_model.proofs.BooleanLemmas.{equal_test, same_number}
use Rattle.rk_model.proofs.ChainLemmas.{chain_next, AllBut, Handed, every_end_obtained, every_end_handed}
use Rattle.rk_model.proofs.IndexLemmas.{nth-with_same, nth-with_other, nth-with_kept, nth-with_holds, length-with_nth}
use Rattle.rk_directives.specs.Sound.{waits_on_but, AreChained, but_none, but_one}
use Rattle.rk_directives.proofs.TieLemmas.{HasOneMore}

-- the owner of a semaphore
abbrev owner_at : List SemaphoreState → ℕ → Option ℕ
owner_at semaphores i = (nth no_semaphore semaphores i).owner

-- a thread of which nobody knows waits on none
stops : (semaphores : List SemaphoreState) (threads : List Thread) (but : ℕ → Bool) → waits_on_but semaphores threads but 0 ≡ None
stops semaphores threads but = either_none (but 0) where
  either_none : (b : Bool) → (let none : Option ℕ = None in cond b none none) ≡ None
  either_none true = refl
  either_none false = refl

-- Chains still end where each thread waits on the one on which it waited, or on none.
pub chained_loosened : (semaphores now : List SemaphoreState) (threads after : List Thread) (larger but : ℕ → Bool) → ((i t : ℕ) → owner_at now i ≡ Some t → has_begun (nth no_thread after t).life ≡ true) → ((u : ℕ) → (waits_on_but now after but u ≡ waits_on_but semaphores threads larger u) ⊎ (waits_on_but now after but u ≡ None)) → AreChained semaphores threads larger → AreChained now after but
chained_loosened semaphores now threads after larger but owners loosened chained = record {
  owners = owners;
  ends = every_end_handed (waits_on_but semaphores threads larger) (waits_on_but now after but) 0 (stops now after but) (λ u. by u (loosened u)) chained.ends;
} where
  by : (u : ℕ) → (waits_on_but now after but u ≡ waits_on_but semaphores threads larger u) ⊎ (waits_on_but now after but u ≡ None) → Handed (waits_on_but semaphores threads larger) (waits_on_but now after but) 0 u
  by u (inl same) = inl same
  by u (inr none) = inr (inl none)

-- where a thread isn't left out, neither is it where fewer are
masked : (b larger : Bool) (x : Option ℕ) → (larger ≡ false → b ≡ false) → (cond larger None x ≡ cond b None x) ⊎ (cond larger None x ≡ None)
masked b true x fewer = inr refl
masked b false x fewer = inl (let e = fewer refl in rw e refl)

-- chains end where more threads are left out
pub chained_fewer : (semaphores : List SemaphoreState) (threads : List Thread) (larger but : ℕ → Bool) → ((u : ℕ) → larger u ≡ false → but u ≡ false) → AreChained semaphores threads but → AreChained semaphores threads larger
chained_fewer semaphores threads larger but more chained =
    chained_loosened semaphores semaphores threads threads but larger chained.owners (λ u. masked (but u) (larger u) (owner_awaited semaphores (nth no_thread threads u).wait) (more u)) chained

-- a life that has begun at an index where this thread is put
lives_put : (threads : List Thread) (t u : ℕ) (thread : Thread) → (has_begun (nth no_thread threads t).life ≡ true → has_begun thread.life ≡ true) → has_begun (nth no_thread threads u).life ≡ true → has_begun (nth no_thread (with_nth threads t thread) u).life ≡ true
lives_put threads t u thread life lives = by (u == t) refl where
  by : (b : Bool) → (u == t) ≡ b → has_begun (nth no_thread (with_nth threads t thread) u).life ≡ true
  by true e =
      let same = same_number u t e in
      let old : has_begun (nth no_thread threads t).life ≡ true = ap (λ n. has_begun (nth no_thread threads n).life) (sym same) ∙ lives in
      nth-with_kept (λ (x : Thread). has_begun x.life) no_thread thread threads t u (life old ∙ sym old) ∙ lives
  by false e = ap (λ (x : Thread). has_begun x.life) (nth-with_other no_thread thread threads t u (λ q. false≢true (sym e ∙ equal_test u t q))) ∙ lives

-- a thread is put that waits as the one before it
pub chained_put : (semaphores : List SemaphoreState) (threads : List Thread) (but : ℕ → Bool) (t : ℕ) (thread : Thread) → thread.wait ≡ (nth no_thread threads t).wait → (has_begun (nth no_thread threads t).life ≡ true → has_begun thread.life ≡ true) → AreChained semaphores threads but → AreChained semaphores (with_nth threads t thread) but
chained_put semaphores threads but t thread wait life chained =
    chained_loosened semaphores semaphores threads (with_nth threads t thread) but but (λ i u owner. lives_put threads t u thread life (chained.owners i u owner))
    (λ u. inl (ap (λ w. cond (but u) None (owner_awaited semaphores w)) (nth-with_kept (λ (x : Thread). x.wait) no_thread thread threads t u wait))) chained

-- any thread is put of those that are left out
pub chained_any : (semaphores : List SemaphoreState) (threads : List Thread) (but : ℕ → Bool) (t : ℕ) (thread : Thread) → but t ≡ true → (has_begun (nth no_thread threads t).life ≡ true → has_begun thread.life ≡ true) → AreChained semaphores threads but → AreChained semaphores (with_nth threads t thread) but
chained_any semaphores threads but t thread among life chained =
    chained_loosened semaphores semaphores threads (with_nth threads t thread) but but (λ i u owner. lives_put threads t u thread life (chained.owners i u owner)) (λ u. by u (but u) refl) chained
  where
    by : (u : ℕ) (b : Bool) → but u ≡ b → (cond b None (owner_awaited semaphores (nth no_thread (with_nth threads t thread) u).wait) ≡ cond b None (owner_awaited semaphores (nth no_thread threads u).wait)) ⊎ (cond b None (owner_awaited semaphores (nth no_thread (with_nth threads t thread) u).wait) ≡ None)
    by u true e = inr refl
    by u false e = inl (ap (λ (x : Thread). owner_awaited semaphores x.wait) (nth-with_other no_thread thread threads t u (λ q. false≢true (sym e ∙ ap but q ∙ among))))

-- a thread is put that waits for nothing, and lives where it owns a semaphore
pub chained_idle : (semaphores : List SemaphoreState) (threads : List Thread) (larger but : ℕ → Bool) (t : ℕ) (thread : Thread) → larger t ≡ true → HasOneMore larger but t → 0 < t → t ≤ length threads → thread.wait ≡ None → ((i : ℕ) → owner_at semaphores i ≡ Some t → has_begun thread.life ≡ true) → AreChained semaphores threads larger → AreChained semaphores (with_nth threads t thread) but
chained_idle semaphores threads larger but t thread among more low high idle life chained =
    chained_loosened semaphores semaphores threads (with_nth threads t thread) larger but owners (λ u. by u (u == t) refl) chained
  where
    here : nth no_thread (with_nth threads t thread) t ≡ thread
    here = nth-with_same no_thread thread threads t low high

    owners : (i u : ℕ) → owner_at semaphores i ≡ Some u → has_begun (nth no_thread (with_nth threads t thread) u).life ≡ true
    owners i u owner = at (u == t) refl where
      at : (b : Bool) → (u == t) ≡ b → has_begun (nth no_thread (with_nth threads t thread) u).life ≡ true
      at true e =
          let same = same_number u t e in
          ap (λ n. has_begun (nth no_thread (with_nth threads t thread) n).life) same ∙ ap (λ (x : Thread). has_begun x.life) here ∙ life i (owner ∙ ap (λ n. Some n) same)
      at false e = ap (λ (x : Thread). has_begun x.life) (nth-with_other no_thread thread threads t u (λ q. false≢true (sym e ∙ equal_test u t q))) ∙ chained.owners i u owner

    none : (b : Bool) (w : Option Wait) → w ≡ None → cond b None (owner_awaited semaphores w) ≡ None
    none true w e = refl
    none false w e = rw e refl

    open_at : (b c : Bool) (x : Option ℕ) → (b ≡ false → c ≡ false) → (cond b None x ≡ cond c None x) ⊎ (cond b None x ≡ None)
    open_at true c x fewer = inr refl
    open_at false c x fewer = inl (let e = fewer refl in rw e refl)

    by : (u : ℕ) (b : Bool) → (u == t) ≡ b → (waits_on_but semaphores (with_nth threads t thread) but u ≡ waits_on_but semaphores threads larger u) ⊎ (waits_on_but semaphores (with_nth threads t thread) but u ≡ None)
    by u true e = inr (none (but u) (nth no_thread (with_nth threads t thread) u).wait (ap (λ n. (nth no_thread (with_nth threads t thread) n).wait) (same_number u t e) ∙ ap (λ (x : Thread). x.wait) here ∙ idle))
    by u false e =
        let other = nth-with_other no_thread thread threads t u (λ q. false≢true (sym e ∙ equal_test u t q)) in
        let same : waits_on_but semaphores (with_nth threads t thread) but u ≡ waits_on_but semaphores threads but u = ap (λ (x : Thread). cond (but u) None (owner_awaited semaphores x.wait)) other in
        then_same same (open_at (but u) (larger u) (owner_awaited semaphores (nth no_thread threads u).wait) (λ apart. more u apart e))
      where
        then_same : {x y z : Option ℕ} → x ≡ y → (y ≡ z) ⊎ (y ≡ None) → (x ≡ z) ⊎ (x ≡ None)
        then_same e (inl f) = inl (e ∙ f)
        then_same e (inr f) = inr (e ∙ f)

-- the owner that is awaited, where each semaphore has the owner that it had
pub owner_same : (semaphores now : List SemaphoreState) (wait : Option Wait) → ((i : ℕ) → owner_at now i ≡ owner_at semaphores i) → owner_awaited now wait ≡ owner_awaited semaphores wait
owner_same semaphores now None same = refl
owner_same semaphores now (Some ForTime) same = refl
owner_same semaphores now (Some (ForEvents set all)) same = refl
owner_same semaphores now (Some (AtBarrier i)) same = refl
owner_same semaphores now (Some (ForPeriod i)) same = refl
owner_same semaphores now (Some (ForSemaphore i spins)) same = same i

-- each semaphore has the owner that it had
pub chained_owners : (semaphores now : List SemaphoreState) (threads : List Thread) (but : ℕ → Bool) → ((i : ℕ) → owner_at now i ≡ owner_at semaphores i) → AreChained semaphores threads but → AreChained now threads but
chained_owners semaphores now threads but same chained =
    chained_loosened semaphores now threads threads but but (λ i t owner. chained.owners i t (sym (same i) ∙ owner)) (λ u. inl (ap (λ o. cond (but u) None o) (owner_same semaphores now (nth no_thread threads u).wait same))) chained

-- so it is where a thread has left a queue, and where one has entered one
pub owners_left : (semaphores : List SemaphoreState) (t : ℕ) (awaited : Option Object) (i : ℕ) → owner_at (without_waiter_in semaphores t awaited) i ≡ owner_at semaphores i
owners_left semaphores t None i = refl
owners_left semaphores t (Some (OfBarrier j)) i = refl
owners_left semaphores t (Some (OfSemaphore j)) i = nth-with_kept (λ (x : SemaphoreState). x.owner) no_semaphore (without_waiter t (nth no_semaphore semaphores j)) semaphores j i refl

pub owners_entered : (semaphores : List SemaphoreState) (by : Caller) (awaited : Option Object) (i : ℕ) → owner_at (with_waiter_in semaphores by awaited) i ≡ owner_at semaphores i
owners_entered semaphores by None i = refl
owners_entered semaphores by (Some (OfBarrier j)) i = refl
owners_entered semaphores by (Some (OfSemaphore j)) i = nth-with_kept (λ (x : SemaphoreState). x.owner) no_semaphore (with_waiter by (nth no_semaphore semaphores j)) semaphores j i refl

-- as many semaphores as before
pub length-left_in : (semaphores : List SemaphoreState) (t : ℕ) (awaited : Option Object) → length (without_waiter_in semaphores t awaited) ≡ length semaphores
length-left_in semaphores t None = refl
length-left_in semaphores t (Some (OfBarrier j)) = refl
length-left_in semaphores t (Some (OfSemaphore j)) = length-with_nth (without_waiter t (nth no_semaphore semaphores j)) semaphores j

pub length-entered_in : (semaphores : List SemaphoreState) (by : Caller) (awaited : Option Object) → length (with_waiter_in semaphores by awaited) ≡ length semaphores
length-entered_in semaphores by None = refl
length-entered_in semaphores by (Some (OfBarrier j)) = refl
length-entered_in semaphores by (Some (OfSemaphore j)) = length-with_nth (with_waiter by (nth no_semaphore semaphores j)) semaphores j

-- The chain of a thread, where others are left out, ends within so many threads and doesn't reach another one.
pub record IsClearOf (step : ℕ → Option ℕ) (v t : ℕ) : Type 0 where
  pub most : ℕ
  pub ends : ends_by step most v ≡ true
  pub unmet : reaches step most v t ≡ false

-- A thread may begin to wait: the chain of the owner of what it waits for, if that has one, doesn't reach it.
abbrev pub MayJoin : List SemaphoreState → List Thread → ℕ → Option Wait → Type 0
MayJoin semaphores threads t wait = (v : ℕ) → owner_awaited semaphores wait ≡ Some v → IsClearOf (waits_on_but semaphores threads (but_one t)) v t

-- chains end where the thread that was left out is one that may wait so
pub chained_joined : (semaphores : List SemaphoreState) (threads : List Thread) (t : ℕ) → MayJoin semaphores threads t (nth no_thread threads t).wait → AreChained semaphores threads (but_one t) → AreChained semaphores threads but_none
chained_joined semaphores threads t joins chained = record { owners = chained.owners; ends = by (owner_awaited semaphores (nth no_thread threads t).wait) refl } where
  step : ℕ → Option ℕ
  step u = waits_on_but semaphores threads (but_one t) u

  now : ℕ → Option ℕ
  now u = waits_on_but semaphores threads but_none u

  others : AllBut t step now
  others w apart = same (w == t) (λ e. apart (same_number w t e)) where
    same : (b : Bool) → (b ≡ true → ⊥) → owner_awaited semaphores (nth no_thread threads w).wait ≡ cond b None (owner_awaited semaphores (nth no_thread threads w).wait)
    same true differs = absurd (differs refl)
    same false differs = refl

  by : (next : Option ℕ) → now t ≡ next → (w : ℕ) → Ends now w
  by None e = every_end_handed step now t e (λ w. at w (w == t) refl) chained.ends where
    at : (w : ℕ) (b : Bool) → (w == t) ≡ b → Handed step now t w
    at w true same = inr (inl (ap now (same_number w t same) ∙ e))
    at w false other = inl (others w (λ q. false≢true (sym other ∙ equal_test w t q)))
  by (Some v) e = let clear = joins v e in every_end_obtained step now clear.most t v e others clear.ends clear.unmet chained.ends

-- an owner is the one before, or none, or this thread
abbrev IsHanded : Option ℕ → ℕ → Option ℕ → Type 0
IsHanded before h now = (now ≡ before) ⊎ (now ≡ None) ⊎ (now ≡ Some h)

-- a semaphore is put that none owns, or a thread that waits on none, where others wait for it
pub chained_handed : (semaphores : List SemaphoreState) (threads : List Thread) (but : ℕ → Bool) (i h : ℕ) (sem : SemaphoreState) → (sem.owner ≡ None) ⊎ (sem.owner ≡ Some h) → has_begun (nth no_thread threads h).life ≡ true → ((now : List SemaphoreState) → waits_on_but now threads but h ≡ None) → AreChained semaphores threads but → AreChained (with_nth semaphores i sem) threads but
chained_handed semaphores threads but i h sem owned lives idle chained = record {
  owners = λ j t owner. lives_at j t (owner_is j) owner;
  ends = every_end_handed (waits_on_but semaphores threads but) (waits_on_but now threads but) h (idle now) (λ u. masked_at (but u) (awaited_is (nth no_thread threads u).wait)) chained.ends;
} where
  now : List SemaphoreState
  now = with_nth semaphores i sem

  put : (j : ℕ) → (sem.owner ≡ None) ⊎ (sem.owner ≡ Some h) → IsHanded (owner_at semaphores j) h sem.owner
  put j (inl e) = inr (inl e)
  put j (inr e) = inr (inr e)

  owner_is : (j : ℕ) → IsHanded (owner_at semaphores j) h (owner_at now j)
  owner_is j = nth-with_holds (λ (s : SemaphoreState). IsHanded (owner_at semaphores j) h s.owner) no_semaphore sem semaphores i j (put j owned) (inl refl)

  none_owns : (t : ℕ) → (let none : Option ℕ = None in none) ≡ Some t → ⊥
  none_owns t e = let no : ⊥ = cc in no

  some_is : (t : ℕ) → Some h ≡ Some t → h ≡ t
  some_is t e = cc

  lives_at : (j t : ℕ) → IsHanded (owner_at semaphores j) h (owner_at now j) → owner_at now j ≡ Some t → has_begun (nth no_thread threads t).life ≡ true
  lives_at j t (inl same) owner = chained.owners j t (sym same ∙ owner)
  lives_at j t (inr (inl none)) owner = absurd (none_owns t (sym none ∙ owner))
  lives_at j t (inr (inr there)) owner = ap (λ n. has_begun (nth no_thread threads n).life) (sym (some_is t (sym there ∙ owner))) ∙ lives

  awaited_is : (w : Option Wait) → IsHanded (owner_awaited semaphores w) h (owner_awaited now w)
  awaited_is None = inl refl
  awaited_is (Some ForTime) = inl refl
  awaited_is (Some (ForEvents set all)) = inl refl
  awaited_is (Some (AtBarrier j)) = inl refl
  awaited_is (Some (ForPeriod j)) = inl refl
  awaited_is (Some (ForSemaphore j spins)) = owner_is j

  masked_at : {before after : Option ℕ} (b : Bool) → IsHanded before h after → IsHanded (cond b None before) h (cond b None after)
  masked_at true is = inl refl
  masked_at false is = is

-- a thread may wait so whatever it is itself
pub joins_put : (semaphores : List SemaphoreState) (threads : List Thread) (t : ℕ) (thread : Thread) (wait : Option Wait) → MayJoin semaphores threads t wait → MayJoin semaphores (with_nth threads t thread) t wait
joins_put semaphores threads t thread wait joins v owner = subst (λ (step : ℕ → Option ℕ). IsClearOf step v t) same (joins v owner) where
  at : (u : ℕ) (b : Bool) → (u == t) ≡ b → (let none : Option ℕ = None in cond b none (owner_awaited semaphores (nth no_thread threads u).wait)) ≡ cond b None (owner_awaited semaphores (nth no_thread (with_nth threads t thread) u).wait)
  at u true e = refl
  at u false e = ap (λ (x : Thread). owner_awaited semaphores x.wait) (sym (nth-with_other no_thread thread threads t u (λ q. false≢true (sym e ∙ equal_test u t q))))

  same : ◌≡◌ {A = ℕ → Option ℕ} (λ u. waits_on_but semaphores threads (but_one t) u) (λ u. waits_on_but semaphores (with_nth threads t thread) (but_one t) u)
  same = λ i u. at u (u == t) refl i

-- and where what it waits for has no owner
pub joins_unowned : (semaphores : List SemaphoreState) (threads : List Thread) (t : ℕ) (wait : Option Wait) → owner_awaited semaphores wait ≡ None → MayJoin semaphores threads t wait
joins_unowned semaphores threads t wait unowned v owner = let no : ⊥ = none_is v (sym unowned ∙ owner) in absurd no where
  none_is : (v : ℕ) → (let none : Option ℕ = None in none) ≡ Some v → ⊥
  none_is v e = let no : ⊥ = cc in no

-- ---- a walk along a chain, of which i of n threads are behind

-- it has met the thread,
pub walk_meets : (step : ℕ → Option ℕ) (n i u v : ℕ) → i < n → (u == v) ≡ true → reaches step (n - i) u v ≡ true
walk_meets step n i u v more met = ap (λ us. has us v) (chain_next step u i n more) ∙ (rw met refl)

-- it has come to an end,
pub walk_ends : (step : ℕ → Option ℕ) (n i u v : ℕ) → i < n → (u == v) ≡ false → step u ≡ None → reaches step (n - i) u v ≡ false
walk_ends step n i u v more unmet none = ap (λ us. has us v) (chain_next step u i n more) ∙ (rw (unmet, none) refl)

-- it goes on with the next thread,
pub walk_goes_on : (step : ℕ → Option ℕ) (n i u next v : ℕ) → i < n → (u == v) ≡ false → step u ≡ Some next → reaches step (n - (i + 1)) next v ≡ reaches step (n - i) u v
walk_goes_on step n i u next v more unmet there = sym (ap (λ us. has us v) (chain_next step u i n more) ∙ (rw (unmet, there) refl))

-- or all threads are behind
pub walk_past : (step : ℕ → Option ℕ) (n i u v : ℕ) → n ≤ i → reaches step (n - i) u v ≡ false
walk_past step n i u v past = let none : n - i ≡ 0 = omega (arith, past) in rw none refl
