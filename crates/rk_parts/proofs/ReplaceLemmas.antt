-- To make a thread in the part of its home, and to remove one.
use Rattle.std.proofs.Common.{◌≡◌, ℕ, zero, suc, ◌<◌, ◌≤◌, List, [], ◌∷◌, Bool, true, false, cond, ◌==◌, Some, length, take, arith, refl, sym, ap, ◌∙◌, get_or, set, length-set, subst}
use Rattle.std.proofs.lemmas.Bool.{false≢true}
use Rattle.std.proofs.lemmas.Bool.Decides.{nat_tests}
use Rattle.rk_model.specs.declared.state.Thread.{Thread}
use Rattle.rk_model.specs.State.{no_thread}
use Rattle.rk_model.specs.Directives.Objects.{has_begun}
use Rattle.rk_model.specs.Text.Scenarios.{cpus_in}
use Rattle.rk_model.proofs.IndexLemmas.{length-with_nth}
use Rattle.rk_cluster.specs.Clusters.{Cluster}
use Rattle.rk_parts.specs.declared.parts.ClusterPart.{ClusterPart}
use Rattle.rk_parts.specs.Joined.{placed_in, lives_in, thread_lent}
use Rattle.rk_parts.specs.Lent.{found_in, number_in, Replaces}
use Rattle.rk_parts.specs.Noted.{part_at}
use Rattle.rk_groups.proofs.FoundLemmas.{found_here, found_later}
use Rattle.rk_parts.proofs.HeldLemmas.{held_made, held_nowhere, found_lives, found_within, nowhere_lives, lives_nowhere, dead_nowhere}
use Rattle.rk_parts.proofs.LayoutLemmas.{Lie, lie, laid, stored_same, accounts_same, holdings_same}
use Rattle.rk_parts.proofs.PutLemmas.{with_thread, placed_other, placed_same, thread_held, state_put, lives_size, part_set, part_kept}

-- the part of a cluster's number
pub number_is : (parts : List ClusterPart) (at c : ℕ) → number_in parts c ≡ Some at → (part_at parts at).lined.number ≡ c
number_is [] at c found = absurd (cc)
number_is (p ∷ ps) zero c found = let e = found_here (p.lined.number == c) (number_in ps c) found in grind (arith, nat_tests, e)
number_is (p ∷ ps) (suc at) c found = number_is ps at c (found_later (p.lined.number == c) (number_in ps c) at found).there

pub number_within : (parts : List ClusterPart) (at c : ℕ) → number_in parts c ≡ Some at → at < length parts
number_within [] at c found = absurd (cc)
number_within (p ∷ ps) zero c found = omega arith
number_within (p ∷ ps) (suc at) c found = omega (arith, number_within ps at c (found_later (p.lined.number == c) (number_in ps c) at found).there)

-- A thread that may stand in a part: none of its index lives in another; it has the home of the part, or is no thread.
pub record Suits (parts : List ClusterPart) (at t : ℕ) (x : Thread) : Type 0 where
  pub within : at < length parts
  pub low : 1 ≤ t
  pub high : t ≤ 64
  pub alone : (j : ℕ) → (j == at) ≡ false → lives_in (part_at parts j) t ≡ false
  pub home : has_begun x.life ≡ true → x.home ≡ (part_at parts at).lined.number
  pub blank : has_begun x.life ≡ false → x ≡ no_thread

-- where it stands there, the parts are laid as before
pub lie_replaced : (counts : List ℕ) (parts : List ClusterPart) (at t : ℕ) (x : Thread) → Suits parts at t x → Lie counts parts → (has_begun x.life ≡ true → x.home < length counts) → Lie counts (set parts at (with_thread (part_at parts at) t x))
lie_replaced counts parts at t x suits is known = record {
  apart = λ i j hi hj e. is.apart i j (rw size at hi) (rw size at hj) (sym (number i) ∙ e ∙ number j);
  once = λ i j u a b. once_by i j u (i == at) (j == at) (u == t) refl refl refl a b;
  home = λ i u h. home_by i u (i == at) (u == t) refl refl h ∙ sym (number i);
  known = λ i u h. rw (number i) (known_by i u (i == at) (u == t) refl refl h);
  blank = λ i u h. blank_by i u (i == at) (u == t) refl refl h;
  size = λ i h. places i ∙ is.size i (rw size at h);
  count = λ i h. ap (λ (c : Cluster). length c.cpus) (lined i) ∙ is.count i (rw size at h) ∙ ap (λ n. get_or counts n 0) (sym (number i));
  first = λ i h k. ap (λ (c : Cluster). c.first) (lined i) ∙ is.first i (rw size at h) (rw (number i) at k) ∙ ap (λ n. cpus_in (take n counts)) (sym (number i));
} where
  part : ClusterPart
  part = part_at parts at

  new : List ClusterPart
  new = set parts at (with_thread part t x)

  size : length new ≡ length parts
  size = length-set parts at (with_thread part t x)

  either_way : {X : Type 0} (f : ClusterPart → X) (i : ℕ) → f (with_thread part t x) ≡ f part → f (part_at new i) ≡ f (part_at parts i)
  either_way f i e = part_kept f parts at i (with_thread part t x) suits.within e

  lined : (i : ℕ) → (part_at new i).lined ≡ (part_at parts i).lined
  lined i = either_way (λ (p : ClusterPart). p.lined) i refl

  number : (i : ℕ) → (part_at new i).lined.number ≡ (part_at parts i).lined.number
  number i = ap (λ (c : Cluster). c.number) (lined i)

  places : (i : ℕ) → length (part_at new i).threads.places ≡ length (part_at parts i).threads.places
  places i = either_way (λ (p : ClusterPart). length p.threads.places) i (length-with_nth x part.threads.places t)

  here : placed_in (with_thread part t x) t ≡ x
  here = placed_same part t x suits.low (let e = is.size at suits.within in omega (arith, e, suits.high))

  -- who stands where in the parts
  there : (i u : ℕ) → (i == at) ≡ true → (u == t) ≡ true → placed_in (part_at new i) u ≡ x
  there i u e f =
      let same : i ≡ at = grind (arith, nat_tests, e) in
      let one : u ≡ t = grind (arith, nat_tests, f) in
      ap (λ (p : ClusterPart). placed_in p u) (part_set parts at i (with_thread part t x) suits.within ∙ ap (λ b. cond b (with_thread part t x) (part_at parts i)) e)
      ∙ ap (placed_in (with_thread part t x)) one ∙ here

  other_part : (i u : ℕ) → (i == at) ≡ false → placed_in (part_at new i) u ≡ placed_in (part_at parts i) u
  other_part i u e = ap (λ (p : ClusterPart). placed_in p u) (part_set parts at i (with_thread part t x) suits.within ∙ ap (λ b. cond b (with_thread part t x) (part_at parts i)) e)

  other_place : (i u : ℕ) → (u == t) ≡ false → placed_in (part_at new i) u ≡ placed_in (part_at parts i) u
  other_place i u e = either_way (λ (p : ClusterPart). placed_in p u) i (placed_other part t u x e)

  begun : Thread → Bool
  begun y = has_begun y.life

  not_there : (i u : ℕ) → (i == at) ≡ false → (u == t) ≡ true → lives_in (part_at new i) u ≡ false
  not_there i u e f =
      let one : u ≡ t = grind (arith, nat_tests, f) in
      ap begun (other_part i u e) ∙ ap (λ v. lives_in (part_at parts i) v) one ∙ suits.alone i e

  once_by : (i j u : ℕ) (b d e : Bool) → (i == at) ≡ b → (j == at) ≡ d → (u == t) ≡ e → lives_in (part_at new i) u ≡ true → lives_in (part_at new j) u ≡ true → i ≡ j
  once_by i j u b d false hi hj hu a o = is.once i j u (sym (ap begun (other_place i u hu)) ∙ a) (sym (ap begun (other_place j u hu)) ∙ o)
  once_by i j u true true true hi hj hu a o = grind (arith, nat_tests, hi, hj)
  once_by i j u false d true hi hj hu a o = absurd (false≢true (sym (not_there i u hi hu) ∙ a))
  once_by i j u true false true hi hj hu a o = absurd (false≢true (sym (not_there j u hj hu) ∙ o))

  home_by : (i u : ℕ) (b e : Bool) → (i == at) ≡ b → (u == t) ≡ e → lives_in (part_at new i) u ≡ true → (placed_in (part_at new i) u).home ≡ (part_at parts i).lined.number
  home_by i u b false hi hu h = ap (λ (y : Thread). y.home) (other_place i u hu) ∙ is.home i u (sym (ap begun (other_place i u hu)) ∙ h)
  home_by i u false true hi hu h = absurd (false≢true (sym (not_there i u hi hu) ∙ h))
  home_by i u true true hi hu h =
      let same : i ≡ at = grind (arith, nat_tests, hi) in
      ap (λ (y : Thread). y.home) (there i u hi hu) ∙ suits.home (sym (ap begun (there i u hi hu)) ∙ h) ∙ ap (λ j. (part_at parts j).lined.number) (sym same)

  known_by : (i u : ℕ) (b e : Bool) → (i == at) ≡ b → (u == t) ≡ e → lives_in (part_at new i) u ≡ true → (part_at parts i).lined.number < length counts
  known_by i u b false hi hu h = is.known i u (sym (ap begun (other_place i u hu)) ∙ h)
  known_by i u false true hi hu h = absurd (false≢true (sym (not_there i u hi hu) ∙ h))
  known_by i u true true hi hu h =
      let life = sym (ap begun (there i u hi hu)) ∙ h in
      let same : i ≡ at = grind (arith, nat_tests, hi) in
      subst (λ n. n < length counts) (suits.home life ∙ ap (λ j. (part_at parts j).lined.number) (sym same)) (known life)

  blank_by : (i u : ℕ) (b e : Bool) → (i == at) ≡ b → (u == t) ≡ e → lives_in (part_at new i) u ≡ false → placed_in (part_at new i) u ≡ no_thread
  blank_by i u b false hi hu h = other_place i u hu ∙ is.blank i u (sym (ap begun (other_place i u hu)) ∙ h)
  blank_by i u false true hi hu h = other_part i u hi ∙ is.blank i u (sym (ap begun (other_part i u hi)) ∙ h)
  blank_by i u true true hi hu h = there i u hi hu ∙ suits.blank (sym (ap begun (there i u hi hu)) ∙ h)

-- where none of its index lives, a thread is made in a part of its home
pub made : (parts : List ClusterPart) (at t : ℕ) (x : Thread) → 1 ≤ t → t ≤ 64 → has_begun (thread_lent parts t).life ≡ false → has_begun x.life ≡ true → number_in parts x.home ≡ Some at →
    Replaces parts t x (set parts at (with_thread (part_at parts at) t x))
made parts at t x low high absent life found =
    let none = dead_nowhere parts t (ap (λ (y : Thread). has_begun y.life) (sym (thread_held parts t low high)) ∙ absent) in
    let within = number_within parts at x.home found in
    let suits : Suits parts at t x = record { within = within; low = low; high = high; alone = λ j e. nowhere_lives parts j t none; home = λ h. sym (number_is parts at x.home found); blank = λ h. absurd (false≢true (sym h ∙ life)) } in
    record {
      state = λ s table groups lies. (
          let size = (lie s.clusters parts lies).size at within in
          let new = placed_same (part_at parts at) t x low (omega (arith, high, size)) in
          state_put s table groups parts at t x low (held_made parts at t (with_thread (part_at parts at) t x) none within (ap (λ (y : Thread). has_begun y.life) new ∙ life) ∙ new));
      laid = λ counts lies known. laid counts _ (lie_replaced counts parts at t x suits (lie counts parts lies) known);
      kept = stored_same parts at _ refl;
      accounts = accounts_same parts at _ refl;
      held = holdings_same parts at _ refl;
    }

-- a thread that lives is removed
pub removed : (parts : List ClusterPart) (at t : ℕ) → 1 ≤ t → t ≤ 64 → found_in parts t ≡ Some at → Replaces parts t no_thread (set parts at (with_thread (part_at parts at) t no_thread))
removed parts at t low high found =
    let within = found_within parts at t found in
    let lives = found_lives parts at t found in
    let gone : placed_in (with_thread (part_at parts at) t no_thread) t ≡ no_thread = placed_same (part_at parts at) t no_thread low (lives_size (part_at parts at) t lives) in
    record {
      state = λ s table groups lies. (
          let is = lie s.clusters parts lies in
          state_put s table groups parts at t no_thread low (held_nowhere (set parts at (with_thread (part_at parts at) t no_thread)) t
          (lives_nowhere _ t (λ j. nobody j (j == at) refl lives gone within is.once))));
      laid = λ counts lies known. (
          let is = lie counts parts lies in
          laid counts _ (lie_replaced counts parts at t no_thread (record { within = within; low = low; high = high; alone = λ j e. alone j e lives is.once; home = λ h. absurd (false≢true h); blank = λ h. refl }) is known));
      kept = stored_same parts at _ refl;
      accounts = accounts_same parts at _ refl;
      held = holdings_same parts at _ refl;
    }
  where
    alone : (j : ℕ) → (j == at) ≡ false → lives_in (part_at parts at) t ≡ true → ((i j t : ℕ) → lives_in (part_at parts i) t ≡ true → lives_in (part_at parts j) t ≡ true → i ≡ j) → lives_in (part_at parts j) t ≡ false
    alone j e lives once = by (lives_in (part_at parts j) t) refl where
      by : (b : Bool) → lives_in (part_at parts j) t ≡ b → lives_in (part_at parts j) t ≡ false
      by true q = let same = once j at t q lives in absurd (grind (arith, nat_tests, e, same))
      by false q = q

    nobody : (j : ℕ) (b : Bool) → (j == at) ≡ b → lives_in (part_at parts at) t ≡ true → placed_in (with_thread (part_at parts at) t no_thread) t ≡ no_thread → at < length parts → ((i j t : ℕ) → lives_in (part_at parts i) t ≡ true → lives_in (part_at parts j) t ≡ true → i ≡ j) →
        lives_in (part_at (set parts at (with_thread (part_at parts at) t no_thread)) j) t ≡ false
    nobody j true e lives gone within once =
        ap (λ (p : ClusterPart). lives_in p t) (part_set parts at j _ within ∙ ap (λ b. cond b (with_thread (part_at parts at) t no_thread) (part_at parts j)) e) ∙ ap (λ (y : Thread). has_begun y.life) gone
    nobody j false e lives gone within once =
        ap (λ (p : ClusterPart). lives_in p t) (part_set parts at j _ within ∙ ap (λ b. cond b (with_thread (part_at parts at) t no_thread) (part_at parts j)) e) ∙ alone j e lives once
