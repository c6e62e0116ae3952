-- How threads stand at their places, and in a state.
use Rattle.std.proofs.Common.{◌≡◌, ℕ, zero, suc, ◌+◌, ◌<◌, ◌≤◌, ◌⊎◌, inl, inr, List, Bool, true, false, cond, None, Some, length, get_or, ⊎_elim, arith, refl, sym, ap, ◌∙◌}
use Rattle.std.proofs.lemmas.Bool.{cases_lt, false≢true}
use Rattle.std.proofs.lemmas.Bool.Decides.{nat_tests}
use Rattle.std.proofs.lemmas.List.{get_or_past}
use Rattle.rk_model.specs.declared.settling.Standing.{Standing}
use Rattle.rk_model.specs.declared.state.Thread.{Thread}
use Rattle.rk_model.specs.Lists.{nth}
use Rattle.rk_model.specs.State.{Plain, no_thread, thread_at}
use Rattle.rk_model.specs.Scheduling.Priorities.{is_eligible, prio, or_least_urgent, home_prio, urgency, standing, standings_from, standings, no_standing, nth_standing}
use Rattle.rk_model.specs.Scheduling.Settling.{belongs}
use Rattle.rk_groups.specs.GroupObjects.{listed}
use Rattle.rk_groups.proofs.ListedLemmas.{get_or-listed, length-listed}
use Rattle.rk_parts.specs.Threads.{bearing, bearing_at, bearings_by, is_ready, no_bearing, standing_at, standings_by, stands_by}
use Rattle.rk_agg.specs.Shares.{Shares}

-- what the thread of an index bears, of those at these places
pub bearings_say : (places : List Thread) (t : ℕ) → nth no_bearing (bearings_by places) t ≡ bearing_at places t
unfolding bearings_by
bearings_say places zero = refl
bearings_say places (suc i) =
    ⊎_elim (λ h. let e : 1 + i ≡ suc i = omega arith in get_or-listed (bearing_at places) 1 (length places) i no_bearing h ∙ ap (bearing_at places) e)
    (λ h. get_or_past (listed (bearing_at places) 1 (length places)) i no_bearing (rw length-listed h) ∙ sym (ap bearing (get_or_past places i no_thread h)))
    (cases_lt i (length places))

-- and how it stands
pub standings_say_at : (shares : Shares) (places : List Thread) (t : ℕ) → nth_standing (standings_by shares places) t ≡ standing_at shares places t
unfolding standings_by
standings_say_at shares places zero = refl
standings_say_at shares places (suc i) =
    ⊎_elim (λ h. let e : 1 + i ≡ suc i = omega arith in get_or-listed (standing_at shares places) 1 (length places) i no_standing h ∙ ap (standing_at shares places) e)
    (λ h. get_or_past (listed (standing_at shares places) 1 (length places)) i no_standing (rw length-listed h) ∙ sym (ap (λ (x : Thread). stands_by shares (suc i) (bearing x)) (get_or_past places i no_thread h)))
    (cases_lt i (length places))

pub length-bearings : (places : List Thread) → length (bearings_by places) ≡ length places
unfolding bearings_by
length-bearings places = length-listed (bearing_at places) 1 (length places)

pub length-standings_by : (shares : Shares) (places : List Thread) → length (standings_by shares places) ≡ length places
unfolding standings_by
length-standings_by shares places = length-listed (standing_at shares places) 1 (length places)

pub eligible_own : (k : Plain) (t : ℕ) → is_eligible k t ≡ is_ready (bearing (thread_at k t))
unfolding is_eligible
eligible_own k t = refl

pub length-standings : (k : Plain) (a n : ℕ) → length (standings_from k a n) ≡ n
length-standings k a zero = refl
length-standings k a (suc n) = omega (arith, length-standings k (a + 1) n)

pub standing_listed : (k : Plain) (a n i : ℕ) → i < n → get_or (standings_from k a n) i no_standing ≡ standing k (a + i)
standing_listed k a zero i h = absurd (omega arith)
standing_listed k a (suc n) zero h = let e : a + 0 ≡ a = omega arith in rw e refl
standing_listed k a (suc n) (suc i) h = let e : a + suc i ≡ a + 1 + i = omega arith in rw e (standing_listed k (a + 1) n i (omega arith))

standing_from : (k : Plain) (i : ℕ) → i < length k.threads → get_or (standings k) i no_standing ≡ standing k (suc i)
standing_from k i h = let e : 1 + i ≡ suc i = omega arith in rw e at (standing_listed k 1 (length k.threads) i h)

-- the standings of a state say of each of its threads how it stands
pub standings_say : (k : Plain) (t : ℕ) → 1 ≤ t → t ≤ length k.threads → nth_standing (standings k) t ≡ standing k t
standings_say k zero low high = absurd (omega (arith, low))
standings_say k (suc i) low high = standing_from k i (omega (arith, high))

-- and of no other that it stands anywhere
pub standings_past : (k : Plain) (t : ℕ) → (1 ≤ t → t ≤ length k.threads → ⊥) → nth_standing (standings k) t ≡ no_standing
standings_past k zero out = refl
standings_past k (suc i) out = get_or_past (standings k) i no_standing (rw length-standings (past (cases_lt i (length k.threads)))) where
  past : (i < length k.threads) ⊎ (length k.threads ≤ i) → length k.threads ≤ i
  past (inl less) = absurd (out (omega arith) (omega (arith, less)))
  past (inr more) = more

within : (k : Plain) (t : ℕ) → ((1 ≤ t) × (t ≤ length k.threads)) ⊎ (1 ≤ t → t ≤ length k.threads → ⊥)
within k zero = inr (λ low high. absurd (omega (arith, low)))
within k (suc i) = ⊎_elim (λ less. inl (omega arith, omega (arith, less))) (λ more. inr (λ low high. absurd (omega (arith, high, more)))) (cases_lt i (length k.threads))

absent : (k : Plain) (t : ℕ) → (1 ≤ t → t ≤ length k.threads → ⊥) → thread_at k t ≡ no_thread
absent k zero out = refl
absent k (suc i) out = get_or_past k.threads i no_thread (past (cases_lt i (length k.threads))) where
  past : (i < length k.threads) ⊎ (length k.threads ≤ i) → length k.threads ≤ i
  past (inl less) = absurd (out (omega arith) (omega (arith, less)))
  past (inr more) = more

nowhere : (k : Plain) (c t : ℕ) → thread_at k t ≡ no_thread → belongs c (standing k t) ≡ false
unfolding standing
nowhere k c t e = rw (eligible_own k t, e) refl

-- a thread that belongs in the ready queue of a cluster has that home
pub belongs_home : (c : ℕ) (k : Plain) (t : ℕ) → belongs c (standing k t) ≡ true → (thread_at k t).home ≡ c
unfolding standing
belongs_home c k t h = by (is_eligible k t) h where
  by : (b : Bool) → belongs c (let s : Standing = record { cluster = cond b (Some (thread_at k t).home) None; prio = home_prio k t } in s) ≡ true → (thread_at k t).home ≡ c
  by true h = grind (arith, nat_tests, h)
  by false h = let no : ⊥ = cc in absurd no

-- where it belongs it is said to belong
pub belongs_say : (k : Plain) (c t : ℕ) → belongs c (nth_standing (standings k) t) ≡ belongs c (standing k t)
belongs_say k c t = by (within k t) where
  by : ((1 ≤ t) × (t ≤ length k.threads)) ⊎ (1 ≤ t → t ≤ length k.threads → ⊥) → belongs c (nth_standing (standings k) t) ≡ belongs c (standing k t)
  by (inl w) = ap (belongs c) (standings_say k t w.0 w.1)
  by (inr out) = ap (belongs c) (standings_past k t out) ∙ sym (nowhere k c t (absent k t out))

prio_here : (k : Plain) (t c : ℕ) → (thread_at k t).home ≡ c → home_prio k t ≡ urgency k c t
unfolding home_prio urgency
prio_here k t c is = ap (λ d. or_least_urgent (prio k t d)) is

-- and its priority there is that of its home
pub urgency_here : (k : Plain) (c t : ℕ) → belongs c (nth_standing (standings k) t) ≡ true → (nth_standing (standings k) t).prio ≡ urgency k c t
unfolding standing
urgency_here k c t h = by (within k t) where
  by : ((1 ≤ t) × (t ≤ length k.threads)) ⊎ (1 ≤ t → t ≤ length k.threads → ⊥) → (nth_standing (standings k) t).prio ≡ urgency k c t
  by (inl w) =
      let says = standings_say k t w.0 w.1 in
      ap (λ (s : Standing). s.prio) says ∙ prio_here k t c (belongs_home c k t (sym (ap (belongs c) says) ∙ h))
  by (inr out) = absurd (false≢true (sym (ap (belongs c) (standings_past k t out)) ∙ h))
