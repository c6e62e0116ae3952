-- How threads are marked, and how the marked ones are noted.
use Rattle.std.proofs.Common.{◌≡◌, ◌≢◌, ℕ, zero, suc, ◌+◌, ◌-◌, ◌<◌, ◌≤◌, ◌&&◌, Option, None, Some, List, [], ◌∷◌, ◌++◌, Bool, true, false, cond, ◌==◌, ◌||◌, ◌⊎◌, inl, inr, ⊎_elim, length, drop, get_or, replicate, arith, refl, sym, ap, ◌∙◌, subst, length-set, take}
use Rattle.std.specs.List.{slice_set}
use Rattle.std.proofs.lemmas.List.{take_more, drop_more, get_or-set_same, get_or-set_other, ext_get_or}
use Rattle.std.proofs.lemmas.Bool.{cases_eq, false≢true}
use Rattle.std.proofs.lemmas.Bool.Decides.{nat_tests}
use Rattle.rk_model.specs.declared.settling.Standing.{Standing}
use Rattle.rk_model.specs.declared.state.Thread.{Thread}
use Rattle.rk_model.specs.State.{no_thread}
use Rattle.rk_model.specs.Scheduling.Priorities.{is_spinning, no_standing, or_least_urgent}
use Rattle.rk_model.specs.Lists.{has, times, nth, with_nth}
use Rattle.rk_model.proofs.BooleanLemmas.{equal_test, same_number, neither_front, neither_back}
use Rattle.rk_model.proofs.CountLemmas.{times-append, has-append, times_none, length_within}
use Rattle.rk_model.proofs.IndexLemmas.{nth-with_other, nth-with_kept, length-with_nth}
use Rattle.rk_agg.specs.Shares.{found, with_found, least_source, no_shares, Shares}
use Rattle.rk_parts.specs.declared.bearing.Bearing.{Bearing}
use Rattle.rk_parts.specs.Threads.{Threads, alone, with_alone, LendAlone, bearing, bearing_at, bearings_by, no_bearing, standing_at, standings_by, stands_by, is_ready, AreApart, AreKept, AsNoted, NoneSpins, StandAsNoted}
use Rattle.rk_parts.proofs.StandingLemmas.{bearings_say, length-bearings, length-standings_by, standings_say_at}
use Rattle.std.specs.Bool.{if◌then◌else◌}
use Rattle.rk_model.specs.Directives.Objects.{has_begun}

-- ---- marks

-- one thread more that isn't marked is still apart from the others
apart_more : (marked : List ℕ) (u : ℕ) → AreApart marked → has marked u ≡ false → 1 ≤ u → u ≤ 64 → AreApart (u ∷ marked)
apart_more marked u apart none low high = record { once = λ t. once t (u == t) refl; within = λ t. within t (u == t) refl } where
  once : (t : ℕ) (b : Bool) → (u == t) ≡ b → cond b 1 0 + times t marked ≤ 1
  once t true e =
      let same : u ≡ t = grind (arith, nat_tests, e) in
      let here : times t marked ≡ 0 = ap (λ v. times v marked) (sym same) ∙ times_none u marked none in
      omega (arith, here)
  once t false e = omega (arith, apart.once t)

  within : (t : ℕ) (b : Bool) → (u == t) ≡ b → (b || has marked t) ≡ true → (1 ≤ t) × (t ≤ 64)
  within t true e h = let same : u ≡ t = grind (arith, nat_tests, e) in (omega (arith, same, low), omega (arith, same, high))
  within t false e h = apart.within t h

or_none : (a : Bool) → (a || false) ≡ a
or_none true = refl
or_none false = refl

swapped : (a b : Bool) → (a || (b || false)) ≡ (b || a)
swapped true true = refl
swapped true false = refl
swapped false true = refl
swapped false false = refl

-- who is marked then
pub marks_more : (marked next : List ℕ) (u : ℕ) → next ≡ marked ++ u ∷ [] → (t : ℕ) → has next t ≡ ((u == t) || has marked t)
marks_more marked next u is t = rw is (has-append marked (u ∷ []) t ∙ swapped (has marked t) (u == t))

-- there is room for it
pub room_to_mark : (marked : List ℕ) (u : ℕ) → AreApart marked → has marked u ≡ false → 1 ≤ u → u ≤ 64 → length marked < 64
room_to_mark marked u apart none low high =
    let more = apart_more marked u apart none low high in
    let few = length_within 64 (u ∷ marked) more.once more.within in
    omega (arith, few)

pub apart_marked : (marked next : List ℕ) (u : ℕ) → AreApart marked → has marked u ≡ false → 1 ≤ u → u ≤ 64 → next ≡ marked ++ u ∷ [] → AreApart next
apart_marked marked next u apart none low high is =
    let more = apart_more marked u apart none low high in
    rw is (record {
      once = λ t. omega (arith, times-append t marked (u ∷ []), more.once t);
      within = λ t h. more.within t (sym (marks_more marked (marked ++ u ∷ []) u refl t) ∙ h);
    })

-- nobody is marked
pub none_marked : AreApart []
none_marked = record { once = λ t. omega arith; within = λ t h. absurd (false≢true h) }

pub unmarked : (marked next : List ℕ) (u t : ℕ) → ((v : ℕ) → has next v ≡ ((u == v) || has marked v)) → has next t ≡ false → (t ≢ u) × (has marked t ≡ false)
unmarked marked next u t marks none = by (u == t) refl (sym (marks t) ∙ none) where
  by : (b : Bool) → (u == t) ≡ b → (b || has marked t) ≡ false → (t ≢ u) × (has marked t ≡ false)
  by true e h = let no : ⊥ = cc in absurd no
  by false e h = ((λ q. false≢true (sym e ∙ grind (arith, nat_tests, q))), h)

-- a thread is put and marked: all others stand, and bear, as is noted
pub noted_put : (marked next : List ℕ) (threads new : Threads) (u : ℕ) (thread : Thread) → StandAsNoted marked threads → ((v : ℕ) → has next v ≡ ((u == v) || has marked v)) → new ≡ (let now : Threads = record threads { places = with_nth threads.places u thread } in now) → StandAsNoted next new
noted_put marked next threads new u thread noted marks put = rw put (record {
  stood = λ t none. let other = unmarked marked next u t marks none in
      standings_say_at threads.shares (with_nth threads.places u thread) t
      ∙ ap (λ (x : Thread). stands_by threads.shares t (bearing x)) (nth-with_other no_thread thread threads.places u t other.0)
      ∙ sym (standings_say_at threads.shares threads.places t)
      ∙ noted.stood t other.1;
  borne = λ t none. let other = unmarked marked next u t marks none in
      bearings_say (with_nth threads.places u thread) t
      ∙ ap bearing (nth-with_other no_thread thread threads.places u t other.0)
      ∙ sym (bearings_say threads.places t)
      ∙ noted.borne t other.1;
})

-- a thread that bears what the one before it bore is put: all stand as before
pub noted_renewed : (marked : List ℕ) (threads new : Threads) (u : ℕ) (thread : Thread) → StandAsNoted marked threads → bearing thread ≡ bearing (nth no_thread threads.places u) → new ≡ (let now : Threads = record threads { places = with_nth threads.places u thread } in now) → StandAsNoted marked new
noted_renewed marked threads new u thread noted same put = rw put (record {
  stood = λ t none.
      standings_say_at threads.shares (with_nth threads.places u thread) t
      ∙ ap (stands_by threads.shares t) (nth-with_kept bearing no_thread thread threads.places u t same)
      ∙ sym (standings_say_at threads.shares threads.places t)
      ∙ noted.stood t none;
  borne = λ t none.
      bearings_say (with_nth threads.places u thread) t
      ∙ nth-with_kept bearing no_thread thread threads.places u t same
      ∙ sym (bearings_say threads.places t)
      ∙ noted.borne t none;
})

-- how a thread stands that bears this, to whose priority this is contributed
abbrev stands_with : Bearing → (ℕ → Option ℕ) → Standing
stands_with b f =
    record {
      cluster = if is_ready b then Some b.home else None;
      prio = if has_begun b.life then or_least_urgent (least_source f) else 255;
    }

-- what is contributed to a thread changes, which is marked: all others stand as is noted
pub noted_lent : (marked next : List ℕ) (threads : Threads) (shares : Shares) (u c w : ℕ) (p : Option ℕ) → StandAsNoted marked threads → ((v : ℕ) → has next v ≡ ((u == v) || has marked v)) → found shares ≡ with_found u c w p (found threads.shares) → StandAsNoted next (record threads { shares = shares })
noted_lent marked next threads shares u c w p noted marks is = record {
  stood = λ t none. let other = unmarked marked next u t marks none in
      standings_say_at shares threads.places t
      ∙ same t other.0
      ∙ sym (standings_say_at threads.shares threads.places t)
      ∙ noted.stood t other.1;
  borne = λ t none. noted.borne t (unmarked marked next u t marks none).1;
} where
  kept : (t d v : ℕ) → t ≢ u → found shares t d v ≡ found threads.shares t d v
  kept t d v other = ap (λ f. f t d v) is ∙ by (u == t) refl where
    by : (b : Bool) → (u == t) ≡ b → cond (b && ((c == d) && (w == v))) p (found threads.shares t d v) ≡ found threads.shares t d v
    by true e = absurd (other (sym (let same : u ≡ t = grind (arith, nat_tests, e) in same)))
    by false e = refl

  same : (t : ℕ) → t ≢ u → standing_at shares threads.places t ≡ standing_at threads.shares threads.places t
  same t other = ap (stands_with (bearing_at threads.places t)) (λ i v. kept t (bearing_at threads.places t).home v other i)

-- ---- noting

-- the threads from a place on, where the one there is known
pub left_at : (threads : List ℕ) (i u t : ℕ) → i < length threads → u ≡ get_or threads i u → has (drop i threads) t ≡ ((u == t) || has (drop (i + 1) threads) t)
left_at threads i u t within is = ap (λ us. has us t) (drop_more threads i u within) ∙ ap (λ v. (v == t) || has (drop (i + 1) threads) t) (sym is)

pub set_size : {X : Type 0} (out out' : List X) (x : X) (i n : ℕ) → length out ≡ n → out' ≡ slice_set out i x → length out' ≡ n
set_size out out' x i n e w = rw w (length-set out i x ∙ e)

-- one thread more is noted: for all but those that are left it is noted what is so now
pub noted_one : {X : Type 0} (none : X) (now : List X) (threads : List ℕ) (i u : ℕ) (out out' : List X) (x : X) → length out ≡ 64 → i < length threads → u ≡ get_or threads i u → 1 ≤ u → u ≤ 64 →
    x ≡ nth none now u → out' ≡ slice_set out (u - 1) x → AsNoted none (drop i threads) out now → AsNoted none (drop (i + 1) threads) out' now
noted_one {X = X} none now threads i u out out' x size within at low high is set so_far t h = rw set (by t (cases_eq u t) h) where
  other : (t : ℕ) → (u ≡ t → ⊥) → (u == t) ≡ false
  other t apart = grind (arith, nat_tests, apart)

  kept : (t : ℕ) → (u ≡ t → ⊥) → nth none out t ≡ nth none (slice_set out (u - 1) x) t
  kept zero apart = refl
  kept (suc j) apart = sym (get_or-set_other out (u - 1) j x none (λ e. apart (omega (arith, e, low))))

  here : (t : ℕ) → u ≡ t → x ≡ nth none (slice_set out (u - 1) x) t
  here zero e = absurd (omega (arith, e, low))
  here (suc j) e =
      let place : u - 1 ≡ j = omega (arith, e) in
      rw place (sym (get_or-set_same out j x none (omega (arith, e, high, size))))

  by : (t : ℕ) → (u ≡ t) ⊎ (u ≡ t → ⊥) → has (drop (i + 1) threads) t ≡ false → nth none now t ≡ nth none (slice_set out (u - 1) x) t
  by t (inl e) h = ap (λ v. nth none now v) (sym e) ∙ sym is ∙ here t e
  by t (inr apart) h = so_far t (left_at threads i u t within at ∙ (rw (other t apart, h) refl)) ∙ kept t apart

-- when none is left, all are noted
pub all_noted : {X : Type 0} (none : X) (now : List X) (left : List ℕ) (out : List X) → length now ≡ 64 → length out ≡ 64 → left ≡ [] → AsNoted none left out now → out ≡ now
all_noted none now left out size same is so_far = ext_get_or none out now (same ∙ sym size) (λ i h. sym (so_far (suc i) (ap (λ us. has us (suc i)) is)))

-- places without threads stand as is noted of none
pub nth_replicate : {X : Type 0} (x : X) (n t : ℕ) → nth x (replicate n x) t ≡ x
nth_replicate x n zero = refl
nth_replicate x n (suc i) = by x n i where
  by : {X : Type 0} (x : X) (n i : ℕ) → get_or (replicate n x) i x ≡ x
  by x zero i = refl
  by x (suc n) zero = refl
  by x (suc n) (suc i) = by x n i

pub none_noted : (n : ℕ) → StandAsNoted [] (record { places = replicate n no_thread; stood = replicate n no_standing; borne = replicate n no_bearing; shares = no_shares })
none_noted n = record {
  stood = λ t h. standings_say_at no_shares (replicate n no_thread) t ∙ ap (λ (x : Thread). stands_by no_shares t (bearing x)) (nth_replicate no_thread n t) ∙ sym (nth_replicate no_standing n t);
  borne = λ t h. bearings_say (replicate n no_thread) t ∙ ap bearing (nth_replicate no_thread n t) ∙ sym (nth_replicate no_bearing n t);
}

pub opened : (threads : Threads) (marked : List ℕ) → threads.places ≡ replicate 64 no_thread → threads.stood ≡ replicate 64 no_standing → threads.borne ≡ replicate 64 no_bearing → threads.shares ≡ no_shares → marked ≡ [] → AreKept marked false threads
opened threads marked a b d e f =
    let none : threads ≡ (let ts : Threads = record { places = replicate 64 no_thread; stood = replicate 64 no_standing; borne = replicate 64 no_bearing; shares = no_shares } in ts) = λ i. record { places = a i; stood = b i; borne = d i; shares = e i } in
    rw (none, f) (refl, refl, refl, none_marked, none_noted 64, λ _ t. ap (λ (x : Thread). is_spinning x.wait) (nth_replicate no_thread 64 t))

-- ---- whether one may spin

-- an item at an index, as the code sets it
pub set_is : {X : Type 0} (xs : List X) (at t : ℕ) (x : X) → at ≡ t → 1 ≤ at → slice_set xs (at - 1) x ≡ with_nth xs t x
set_is xs at zero x is low = absurd (omega (arith, is, low))
set_is xs at (suc i) x is low = let place : at - 1 ≡ i = omega (arith, is) in rw place refl

-- none spins still once one that doesn't was put
spins_put : (may next : Bool) (places new : List Thread) (u : ℕ) (x : Thread) → next ≡ (may || is_spinning (nth no_thread new u).wait) → new ≡ with_nth places u x → NoneSpins may places → NoneSpins next new
spins_put may next places new u x is put none off t =
    let spins = is_spinning (nth no_thread new u).wait in
    let both : (may || spins) ≡ false = sym is ∙ off in
    ⊎_elim
    (λ same. subst (λ n. is_spinning (nth no_thread new n).wait ≡ false) (sym same) (neither_back may spins both))
    (λ other. ap (λ (ts : List Thread). is_spinning (nth no_thread ts t).wait) put ∙ ap (λ (y : Thread). is_spinning y.wait) (nth-with_other no_thread x places u t other) ∙ none (neither_front may spins both) t)
    (cases_eq t u)

-- a thread that waits as before spins as before
spins_renewed : (may : Bool) (places new : List Thread) (u : ℕ) (x : Thread) → x.wait ≡ (nth no_thread places u).wait → new ≡ with_nth places u x → NoneSpins may places → NoneSpins may new
spins_renewed may places new u x waits put none off t =
    ap (λ (ts : List Thread). is_spinning (nth no_thread ts t).wait) put
    ∙ nth-with_kept (λ (y : Thread). is_spinning y.wait) no_thread x places u t (ap is_spinning waits) ∙ none off t

-- ---- what holds of the fields of threads

pub kept_put : (places now : List Thread) (stood : List Standing) (borne : List Bearing) (shares : Shares) (marked next : List ℕ) (spun spins : Bool) (at u : ℕ) (thread : Thread) → at ≡ u → 1 ≤ at → now ≡ slice_set places (at - 1) thread → AreKept marked spun (record { places = places; stood = stood; borne = borne; shares = shares }) → AreApart next → ((v : ℕ) → has next v ≡ ((u == v) || has marked v)) → spins ≡ (spun || is_spinning (nth no_thread now u).wait) → AreKept next spins (record { places = now; stood = stood; borne = borne; shares = shares })
kept_put places now stood borne shares marked next spun spins at u thread is low set kept apart marks notes =
    let put : now ≡ with_nth places u thread = set ∙ set_is places at u thread is low in
    let old : Threads = record { places = places; stood = stood; borne = borne; shares = shares } in
    (ap (λ (ts : List Thread). length ts) put ∙ length-with_nth thread places u ∙ kept.0, kept.1, kept.2, apart, noted_put marked next old (record { places = now; stood = stood; borne = borne; shares = shares }) u thread kept.4 marks (ap (λ (ts : List Thread). (let n : Threads = record { places = ts; stood = stood; borne = borne; shares = shares } in n)) put), spins_put spun spins places now u thread notes put kept.5)

pub kept_renewed : (places now : List Thread) (stood : List Standing) (borne : List Bearing) (shares : Shares) (marked : List ℕ) (spun : Bool) (at u : ℕ) (thread : Thread) (before : Threads) → (let old : Threads = record { places = places; stood = stood; borne = borne; shares = shares } in old) ≡ before → at ≡ u → 1 ≤ at → now ≡ slice_set places (at - 1) thread → AreKept marked spun (record { places = places; stood = stood; borne = borne; shares = shares }) → bearing thread ≡ bearing (nth no_thread before.places u) → AreKept marked spun (record { places = now; stood = stood; borne = borne; shares = shares })
kept_renewed places now stood borne shares marked spun at u thread before view is low set kept same =
    let put : now ≡ with_nth places u thread = set ∙ set_is places at u thread is low in
    let old : Threads = record { places = places; stood = stood; borne = borne; shares = shares } in
    let bears = same ∙ ap (λ (ts : Threads). bearing (nth no_thread ts.places u)) (sym view) in
    (ap (λ (ts : List Thread). length ts) put ∙ length-with_nth thread places u ∙ kept.0, kept.1, kept.2, kept.3, noted_renewed marked old (record { places = now; stood = stood; borne = borne; shares = shares }) u thread kept.4 bears (ap (λ (ts : List Thread). (let n : Threads = record { places = ts; stood = stood; borne = borne; shares = shares } in n)) put), spins_renewed spun places now u thread (ap (λ (b : Bearing). b.wait) bears) put kept.5)

pub kept_lent : (places : List Thread) (stood : List Standing) (borne : List Bearing) (shares now : Shares) (marked next : List ℕ) (spun : Bool) (u c w : ℕ) (p : Option ℕ) → AreKept marked spun (record { places = places; stood = stood; borne = borne; shares = shares }) → AreApart next → ((v : ℕ) → has next v ≡ ((u == v) || has marked v)) → found now ≡ with_found u c w p (found shares) → AreKept next spun (record { places = places; stood = stood; borne = borne; shares = now })
kept_lent places stood borne shares now marked next spun u c w p kept apart marks is = (kept.0, kept.1, kept.2, apart, noted_lent marked next (record { places = places; stood = stood; borne = borne; shares = shares }) now u c w p kept.4 marks is, kept.5)

pub kept_noted : (places : List Thread) (stood : List Standing) (borne : List Bearing) (shares : Shares) (marked : List ℕ) (spun : Bool) → marked ≡ [] → length places ≡ 64 → NoneSpins spun places → stood ≡ standings_by shares places → borne ≡ bearings_by places → AreKept marked spun (record { places = places; stood = stood; borne = borne; shares = shares })
kept_noted places stood borne shares marked spun none size calm stands bears = rw (none, stands, bears) (size, length-standings_by shares places ∙ size, length-bearings places ∙ size, none_marked, record { stood = λ t h. refl; borne = λ t h. refl }, calm)

-- ---- marked threads contribute, where nobody lends

-- one more of them does
pub alone_more : (marked : List ℕ) (bear : ℕ → Bearing) (c i x : ℕ) (p : Option ℕ) (before now next : ℕ → ℕ → ℕ → Option ℕ) → i < length marked → x ≡ get_or marked i x → p ≡ alone (bear x) c → now ≡ with_alone (take i marked) bear c before → next ≡ with_found x c x p now → next ≡ with_alone (take (i + 1) marked) bear c before
alone_more marked bear c i x p before now next within here is so_far put = put ∙ ap (with_found x c x p) so_far ∙ (λ j t d u. at t d u j) where
  marks : (t : ℕ) → has (take (i + 1) marked) t ≡ (has (take i marked) t || (x == t))
  marks t =
      ap (λ us. has us t) (take_more marked i x within ∙ ap (λ y. take i marked ++ y ∷ []) (sym here))
      ∙ has-append (take i marked) (x ∷ []) t
      ∙ ap (λ b. has (take i marked) t || b) (or_none (x == t))

  same : (h m : Bool) (new old : Option ℕ) → cond m new (cond (h && m) new old) ≡ cond ((h || true) && m) new old
  same true true new old = refl
  same true false new old = refl
  same false true new old = refl
  same false false new old = refl

  other : (h m : Bool) (new old : Option ℕ) → cond (h && m) new old ≡ cond ((h || false) && m) new old
  other true m new old = refl
  other false m new old = refl

  by : (t d u : ℕ) (b : Bool) → (x == t) ≡ b → cond (b && ((c == d) && (x == u))) p (with_alone (take i marked) bear c before t d u) ≡ cond ((has (take i marked) t || b) && ((c == d) && (t == u))) (alone (bear t) c) (before t d u)
  by t d u true e =
      let is_t : x ≡ t = same_number x t e in
      ap (λ y. cond ((c == d) && (y == u)) p (with_alone (take i marked) bear c before t d u)) is_t
      ∙ ap (λ o. cond ((c == d) && (t == u)) o (with_alone (take i marked) bear c before t d u)) (is ∙ ap (λ y. alone (bear y) c) is_t)
      ∙ same (has (take i marked) t) ((c == d) && (t == u)) (alone (bear t) c) (before t d u)
  by t d u false e = other (has (take i marked) t) ((c == d) && (t == u)) (alone (bear t) c) (before t d u)

  at : (t d u : ℕ) → with_found x c x p (with_alone (take i marked) bear c before) t d u ≡ with_alone (take (i + 1) marked) bear c before t d u
  at t d u = by t d u (x == t) refl ∙ ap (λ b. cond (b && ((c == d) && (t == u))) (alone (bear t) c) (before t d u)) (sym (marks t))

-- nothing is contributed anew to others
alone_unmarked : (marked : List ℕ) (bear : ℕ → Bearing) (c : ℕ) (before : ℕ → ℕ → ℕ → Option ℕ) (t d u : ℕ) → has marked t ≡ false → with_alone marked bear c before t d u ≡ before t d u
alone_unmarked marked bear c before t d u none = ap (λ b. cond (b && ((c == d) && (t == u))) (alone (bear t) c) (before t d u)) none

-- Where all contributed to themselves alone, as they bore, they do as they bear.
pub alone_now : (marked : List ℕ) (threads : Threads) (c : ℕ) (now : ℕ → ℕ → ℕ → Option ℕ) → StandAsNoted marked threads → now ≡ with_alone marked (bearing_at threads.places) c (found threads.shares) → LendAlone (nth no_bearing threads.borne) c (found threads.shares) → LendAlone (bearing_at threads.places) c now
alone_now marked threads c now noted is lent t u one other = ap (λ f. f t c u) is ∙ by (has marked t) refl (t == u) refl where
  bear : ℕ → Bearing
  bear = bearing_at threads.places

  by : (a : Bool) → has marked t ≡ a → (b : Bool) → (t == u) ≡ b → cond (a && ((c == c) && b)) (alone (bear t) c) (found threads.shares t c u) ≡ cond b (alone (bear t) c) None
  by true m true e = ap (λ b. cond (b && true) (alone (bear t) c) (found threads.shares t c u)) (equal_test c c refl)
  by true m false e =
      ap (λ b. cond (b && false) (alone (bear t) c) (found threads.shares t c u)) (equal_test c c refl)
      ∙ lent t u one other ∙ ap (λ b. cond b (alone (nth no_bearing threads.borne t) c) None) e
  by false m b e =
      lent t u one other
      ∙ ap (λ x. cond x (alone (nth no_bearing threads.borne t) c) None) e
      ∙ ap (λ x. cond b (alone x c) None) (sym (noted.borne t m) ∙ bearings_say threads.places t)

pub kept_alone : (places : List Thread) (stood : List Standing) (borne : List Bearing) (shares now : Shares) (marked : List ℕ) (spun : Bool) (c : ℕ) → AreKept marked spun (record { places = places; stood = stood; borne = borne; shares = shares }) → found now ≡ with_alone marked (bearing_at places) c (found shares) → AreKept marked spun (record { places = places; stood = stood; borne = borne; shares = now })
kept_alone places stood borne shares now marked spun c kept is = (kept.0, kept.1, kept.2, kept.3, record { stood = λ t none. stands t none; borne = kept.4.borne }, kept.5) where
  same : (t d : ℕ) → has marked t ≡ false → found now t d ≡ found shares t d
  same t d none = λ i u. (ap (λ f. f t d u) is ∙ alone_unmarked marked (bearing_at places) c (found shares) t d u none) i

  stands : (t : ℕ) → has marked t ≡ false → nth no_standing (standings_by now places) t ≡ nth no_standing stood t
  stands t none =
      standings_say_at now places t
      ∙ ap (stands_with (bearing_at places t)) (same t (bearing_at places t).home none)
      ∙ sym (standings_say_at shares places t)
      ∙ kept.4.stood t none
