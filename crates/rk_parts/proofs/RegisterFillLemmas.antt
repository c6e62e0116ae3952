-- A register of a cluster as it is written, one thread that may have a change after another.
use Rattle.std.proofs.Common.{◌≡◌, ℕ, ◌+◌, ◌<◌, List, [], ◌∷◌, ◌++◌, Bool, true, false, cond, not, ◌==◌, ◌&&◌, ◌||◌, nat_lt, ◌⊎◌, inl, inr, ⊎_elim, Option, Some, None, length, drop, get_or, arith, refl, ap, sym, ◌∙◌, subst}
use Rattle.std.specs.Option.{option_to_list}
use Rattle.std.proofs.lemmas.Bool.{false≢true}
use Rattle.std.proofs.lemmas.Bool.Decides.{nat_tests}
use Rattle.std.proofs.lemmas.List.{drop_more}
use Rattle.rk_model.specs.declared.settling.Standing.{Standing}
use Rattle.rk_model.specs.declared.settling.Shift.TheVariants.{Stay, Leave, ToEnd, ToFront}
use Rattle.rk_model.specs.declared.state.Thread.{Thread}
use Rattle.rk_model.specs.declared.state.Life.{Life}
use Rattle.rk_model.specs.declared.state.Life.TheVariants.{Absent, Dormant, Started, Ended}
use Rattle.rk_model.specs.Lists.{has, nth}
use Rattle.rk_model.specs.State.{no_thread}
use Rattle.rk_model.specs.Directives.Objects.{has_begun}
use Rattle.rk_model.specs.Scheduling.Priorities.{is_started, is_no_wait, is_spinning, no_standing, nth_standing}
use Rattle.rk_model.specs.Scheduling.Settling.{belongs, shifts, shift_of}
use Rattle.rk_model.proofs.CountLemmas.{has-append}
use Rattle.rk_cluster.specs.declared.moves.Change.{Change}
use Rattle.rk_cluster.specs.Registers.{no_changes, with_change}
use Rattle.rk_parts.specs.ClusterRegisters.{change_by, register}
use Rattle.rk_parts.specs.Noted.{one_lives}
use Rattle.rk_parts.specs.declared.bearing.Bearing.{Bearing}
use Rattle.rk_parts.specs.Threads.{bearing_at, is_ready, standing_at, standings_by, AsNoted}
use Rattle.rk_parts.proofs.StandingLemmas.{standings_say_at}
use Rattle.rk_agg.specs.Shares.{Shares}

pub not_ready : (x : Bearing) → has_begun x.life ≡ false → is_ready x ≡ false
not_ready x dead = by x.life dead where
  by : (life : Life) → has_begun life ≡ false → (is_started life && not x.suspended && (is_no_wait x.wait || is_spinning x.wait)) ≡ false
  by Absent h = refl
  by Dormant h = refl
  by Started h = absurd (false≢true (sym h))
  by Ended h = refl

-- a thread that stands as before and doesn't go last has no change
still_none : (c : ℕ) (s : Standing) → change_by (belongs c s) (shift_of c s s false) s.prio ≡ None
unfolding shift_of
still_none c s = by (belongs c s) (nat_lt s.prio s.prio) (grind (arith, nat_tests)) where
  by : (e b : Bool) → b ≡ false → change_by e (cond (not e) Leave (cond (not e) ToEnd (cond b ToEnd (cond false ToEnd (cond b ToFront Stay))))) s.prio ≡ None
  by true true less = absurd (false≢true (sym less))
  by true false less = refl
  by false b less = refl

or_first : (a b : Bool) → (a || b) ≡ false → a ≡ false
or_first true b h = let no : ⊥ = cc in absurd no
or_first false b h = refl

or_second : (a b : Bool) → (a || b) ≡ false → b ≡ false
or_second true b h = let no : ⊥ = cc in absurd no
or_second false b h = h

-- the register says of a thread that isn't marked and doesn't go last that nothing changes
unmarked_none : (marked last : List ℕ) (stood now : List Standing) (c t : ℕ) → AsNoted no_standing marked stood now → has (marked ++ last) t ≡ false → register stood now last c t ≡ None
unfolding shifts
unmarked_none marked last stood now c t noted none =
    let apart : (has marked t || has last t) ≡ false = sym (has-append marked last t) ∙ none in
    let same : nth_standing now t ≡ nth_standing stood t = noted t (or_first _ _ apart) in
    rw (same, or_second (has marked t) (has last t) apart) (still_none c (nth_standing stood t))

-- A register as far as it is written: only threads that are left may lack their change.
pub record IsFilling (whole : ℕ → Option Change) (left : List ℕ) (out : ℕ → Option Change) : Type 0 where
  pub so_far : (t : ℕ) → has left t ≡ false → out t ≡ whole t
  pub part : (t : ℕ) → (out t ≡ None) ⊎ (out t ≡ whole t)

pub fill_none : (marked last : List ℕ) (stood now : List Standing) (c : ℕ) (out : ℕ → Option Change) → AsNoted no_standing marked stood now → ((t : ℕ) → out t ≡ None) → IsFilling (register stood now last c) (marked ++ last) out
fill_none marked last stood now c out noted none = record {
  so_far = λ t h. none t ∙ sym (unmarked_none marked last stood now c t noted h);
  part = λ t. inl (none t);
}

-- one thread more, which has a change
pub fill_some : (whole : ℕ → Option Change) (u : ℕ) (left : List ℕ) (out next : ℕ → Option Change) (change : Change) → IsFilling whole (u ∷ left) out → Some change ≡ whole u → next ≡ with_change out u change → IsFilling whole left next
fill_some whole u left out next change is has_it set = record {
  so_far = λ t h. ap (λ f. f t) set ∙ here t (u == t) refl h;
  part = λ t. rw set (there t (u == t) refl);
} where
  equal : (t : ℕ) → (u == t) ≡ true → u ≡ t
  equal t e = grind (arith, nat_tests, e)

  here : (t : ℕ) (b : Bool) → (u == t) ≡ b → has left t ≡ false → cond b (Some change) (out t) ≡ whole t
  here t true e h = has_it ∙ ap whole (equal t e)
  here t false e h = is.so_far t (rw (e, h) refl)

  there : (t : ℕ) (b : Bool) → (u == t) ≡ b → (cond b (Some change) (out t) ≡ None) ⊎ (cond b (Some change) (out t) ≡ whole t)
  there t true e = inr (has_it ∙ ap whole (equal t e))
  there t false e = is.part t

-- one thread more, which has none
pub fill_other : (whole : ℕ → Option Change) (u : ℕ) (left : List ℕ) (out : ℕ → Option Change) → IsFilling whole (u ∷ left) out → None ≡ whole u → IsFilling whole left out
fill_other whole u left out is none = record {
  so_far = λ t h. by t (u == t) refl h;
  part = is.part;
} where
  by : (t : ℕ) (b : Bool) → (u == t) ≡ b → has left t ≡ false → out t ≡ whole t
  by t true e h =
      let same : u ≡ t = grind (arith, nat_tests, e) in
      ⊎_elim (λ n. n ∙ none ∙ ap whole same) (λ w. w) (is.part t)
  by t false e h = is.so_far t (rw (e, h) refl)

-- with none left it is the whole register
pub filled : (whole : ℕ → Option Change) (left : List ℕ) (out : ℕ → Option Change) → left ≡ [] → IsFilling whole left out → out ≡ whole
filled whole left out none is = λ i t. is.so_far t (ap (λ us. has us t) none) i

-- those of a list from a place on, with others behind them, where the one there is known
pub left_from : (threads last : List ℕ) (i u : ℕ) → i < length threads → u ≡ get_or threads i u → drop i threads ++ last ≡ u ∷ (drop (i + 1) threads ++ last)
left_from threads last i u within is = ap (λ (us : List ℕ). us ++ last) (drop_more threads i u within) ∙ ap (λ v. v ∷ (drop (i + 1) threads ++ last)) (sym is)

-- when none of the list is left, those behind it are
pub fill_behind : (whole : ℕ → Option Change) (left last rest : List ℕ) (out : ℕ → Option Change) → left ≡ [] → last ≡ rest → IsFilling whole (left ++ last) out → IsFilling whole rest out
fill_behind whole left last rest out none same is = subst (λ us. IsFilling whole us out) (ap (λ (us : List ℕ). us ++ last) none ∙ same) is

-- ---- where nobody is marked

-- a thread that lives in another part has no change
away_none : (stood : List Standing) (shares : Shares) (places : List Thread) (last : List ℕ) (c t : ℕ) → nth_standing stood t ≡ standing_at shares places t → has_begun (nth no_thread places t).life ≡ false → register stood (standings_by shares places) last c t ≡ None
unfolding shifts shift_of
away_none stood shares places last c t same dead =
    let now : nth_standing (standings_by shares places) t ≡ standing_at shares places t = standings_say_at shares places t in
    rw (same, now, not_ready (bearing_at places t) dead) refl

-- where nobody is marked, and the one that goes last lives elsewhere, nothing changes
pub nobody_changes : (marked : List ℕ) (stood : List Standing) (shares : Shares) (places : List Thread) (last : Option ℕ) (c : ℕ) → marked ≡ [] → AsNoted no_standing marked stood (standings_by shares places) → one_lives places last ≡ false → register stood (standings_by shares places) (option_to_list last) c ≡ no_changes
nobody_changes marked stood shares places None c none noted elsewhere = λ i t. unmarked_none marked [] stood (standings_by shares places) c t noted (rw none refl) i
nobody_changes marked stood shares places (Some u) c none noted elsewhere = λ i t. by t (u == t) refl i where
  by : (t : ℕ) (b : Bool) → (u == t) ≡ b → register stood (standings_by shares places) (u ∷ []) c t ≡ None
  by t true e =
      let same : u ≡ t = grind (arith, nat_tests, e) in
      away_none stood shares places (u ∷ []) c t (sym (noted t (rw none refl)) ∙ standings_say_at shares places t) (ap (λ v. has_begun (nth no_thread places v).life) (sym same) ∙ elsewhere)
  by t false e = unmarked_none marked (u ∷ []) stood (standings_by shares places) c t noted (rw (none, e) refl)
