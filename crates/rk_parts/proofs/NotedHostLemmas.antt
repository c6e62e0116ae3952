-- Parts in which links and processors are noted, one after another, and whom processors help.
use Rattle.std.proofs.Common.{◌≡◌, ℕ, zero, suc, ◌+◌, ◌<◌, ◌≤◌, List, [], ◌∷◌, ◌++◌, Bool, true, false, ◌==◌, ◌||◌, nat_lt, ⊎_elim, Option, Some, None, length, map, take, get_or, arith, refl, sym, ap, ◌∙◌, subst}
use Rattle.std.specs.Bool.{if◌then◌else◌}
use Rattle.std.specs.List.{AllByRecursion}
use Rattle.std.proofs.lemmas.Bool.{false≢true, cases_lt}
use Rattle.std.proofs.lemmas.Bool.Decides.{nat_tests}
use Rattle.std.proofs.lemmas.List.{length-map, take_more, get_or_past}
use Rattle.rk_model.specs.Lists.{with_nth}
use Rattle.rk_model.specs.Names.{Table}
use Rattle.rk_model.specs.Scheduling.Helping.{offer, offer_of, helped_by, helped_in}
use Rattle.rk_model.specs.Scheduling.Running.{view_of, running}
use Rattle.rk_model.specs.declared.entry.View.TheVariants.{Spins, Runs}
use Rattle.rk_model.specs.declared.scenario.Scenario.{Scenario}
use Rattle.rk_groups.specs.declared.group.GroupPart.{GroupPart}
use Rattle.rk_model.specs.State.{no_thread}
use Rattle.rk_model.proofs.BooleanLemmas.{same_number, equal_test}
use Rattle.rk_model.proofs.IndexLemmas.{nth-with_other, nth-with_same, length-with_nth}
use Rattle.rk_mrsp.specs.declared.chains.Link.{Link}
use Rattle.rk_mrsp.specs.declared.seats.Seat.{Seat}
use Rattle.rk_mrsp.specs.Scenes.{no_link, link_of, cpu_in, has_seat, scene_in, hosts_of}
use Rattle.rk_parts.specs.declared.parts.ClusterPart.{ClusterPart}
use Rattle.rk_parts.specs.Hosted.{link_lent, scene_lent, hosted_in, AreHosted, with_link, without_seats, with_seat, hosting_part, idle_part, spins_at, spins_below, has_spinner, IsStill, ShowRunning}
use Rattle.rk_parts.specs.Noted.{bare, part_at}
use Rattle.rk_model.specs.declared.state.Thread.{Thread}
use Rattle.rk_model.specs.Scheduling.Priorities.{is_spinning}
use Rattle.rk_parts.specs.Joined.{placed_in, lives_in, held, joined, threads_of, thread_lent}
use Rattle.rk_parts.specs.Seats.{seat_in}
use Rattle.rk_parts.proofs.PutLemmas.{thread_held, length_threads}
use Rattle.rk_parts.proofs.HostedLemmas.{AreRead, viewed, scene_bare, seats_bare, host_read, hosted_noted, hosted_none, length_bare}
use Rattle.rk_parts.proofs.MappedPartLemmas.{mapped_kept}

-- ---- parts each of which is changed alike

pub map_at : (f : ClusterPart → ClusterPart) (parts : List ClusterPart) (at : ℕ) → at < length parts → part_at (map f parts) at ≡ f (part_at parts at)
map_at f [] at within = absurd (never at within) where
  never : (n : ℕ) → n < 0 → ⊥
  never n h = omega (arith, h)
map_at f (p ∷ ps) zero within = refl
map_at f (p ∷ ps) (suc at) within = map_at f ps at (omega (arith, within))

-- what a change leaves alone of a part it leaves alone of each, and of one that isn't there
pub map_kept_at : {X : Type 0} (g : ClusterPart → X) (f : ClusterPart → ClusterPart) → ((p : ClusterPart) → g (f p) ≡ g p) → (parts : List ClusterPart) (at : ℕ) → g (part_at (map f parts) at) ≡ g (part_at parts at)
map_kept_at g f same [] at = refl
map_kept_at g f same (p ∷ ps) zero = same p
map_kept_at g f same (p ∷ ps) (suc at) = map_kept_at g f same ps at

pub all_at : (P : ClusterPart → Type 0) (parts : List ClusterPart) (at : ℕ) → AllByRecursion P parts → at < length parts → P (part_at parts at)
all_at P [] at all within = absurd (never at within) where
  never : (n : ℕ) → n < 0 → ⊥
  never n h = omega (arith, h)
all_at P (p ∷ ps) zero all within = all.0
all_at P (p ∷ ps) (suc at) all within = all_at P ps at all.1 (omega (arith, within))

pub all_from : (P : ClusterPart → Type 0) (parts : List ClusterPart) → ((at : ℕ) → at < length parts → P (part_at parts at)) → AllByRecursion P parts
all_from P [] each = tt
all_from P (p ∷ ps) each = (each 0 (omega arith), all_from P ps (λ at h. each (suc at) (omega (arith, h))))

-- ---- links

abbrev pub Sized : ClusterPart → Type 0
Sized part = length part.chains ≡ 64

-- the links up to a thread are noted in each part
abbrev pub HaveLinks : List ClusterPart → List ClusterPart → ℕ → Type 0
HaveLinks old now n = (at t : ℕ) → at < length now → t < n → link_of (part_at now at).chains t ≡ link_lent old t

pub first_links : (old : List ClusterPart) → HaveLinks old old 1
first_links old at t within low = let none : t ≡ 0 = omega (arith, low) in subst (λ u. link_of (part_at old at).chains u ≡ link_lent old u) (sym none) refl

pub kept_link : (old now new : List ClusterPart) (t : ℕ) (link : Link) → new ≡ map (with_link t link) now → map bare now ≡ map bare old → map bare new ≡ map bare old
kept_link old now new t link is kept = ap (λ (ps : List ClusterPart). map bare ps) is ∙ mapped_kept bare (with_link t link) (λ p. refl) now ∙ kept

pub one_more_link : (old now new : List ClusterPart) (t : ℕ) (link : Link) → 1 ≤ t → t ≤ 64 → new ≡ map (with_link t link) now → AllByRecursion Sized new → link ≡ link_lent now t → map bare now ≡ map bare old → HaveLinks old now t → HaveLinks old new (t + 1)
one_more_link old now new t link low high is sizes made kept links at u within less =
    let size : length new ≡ length now = ap (λ (ps : List ClusterPart). length ps) is ∙ length-map now (with_link t link) in
    let inside : at < length now = omega (arith, within, size) in
    let there : part_at new at ≡ with_link t link (part_at now at) = ap (λ (ps : List ClusterPart). part_at ps at) is ∙ map_at (with_link t link) now at inside in
    let full : length (with_nth (part_at now at).chains t link) ≡ 64 = ap (λ (p : ClusterPart). length p.chains) (sym there) ∙ all_at Sized new at sizes within in
    let same : length (part_at now at).chains ≡ 64 = sym (length-with_nth link (part_at now at).chains t) ∙ full in
    let mine : link ≡ link_lent old t = made ∙ ap (λ x. (let l : Link = record { on = x.on t; spins = x.spins t; ready = x.ready t } in l)) (scene_bare old now kept) in
    ap (λ (p : ClusterPart). link_of p.chains u) there ∙ by inside same mine (t == u) refl
  where
    by : at < length now → length (part_at now at).chains ≡ 64 → link ≡ link_lent old t → (b : Bool) → (t == u) ≡ b → link_of (with_nth (part_at now at).chains t link) u ≡ link_lent old u
    by inside same mine true e =
        let eq : t ≡ u = same_number t u e in
        subst (λ v. link_of (with_nth (part_at now at).chains t link) v ≡ link_lent old v) eq (nth-with_same no_link link (part_at now at).chains t low (omega (arith, same, high)) ∙ mine)
    by inside same mine false e =
        let before : u < t = grind (arith, nat_tests, e, less) in
        nth-with_other no_link link (part_at now at).chains t u (λ q. false≢true (sym e ∙ equal_test t u (sym q))) ∙ links at u inside before

-- ---- processors

cpu_append : (xs ys : List Seat) (p : ℕ) → cpu_in xs p ≡ None → cpu_in (xs ++ ys) p ≡ cpu_in ys p
cpu_append [] ys p none = refl
cpu_append (x ∷ xs) ys p none = by (x.cpu == p) refl none (cpu_append xs ys p) where
  by : (b : Bool) → (x.cpu == p) ≡ b → (if b then Some x.thread else cpu_in xs p) ≡ None → (cpu_in xs p ≡ None → cpu_in (xs ++ ys) p ≡ cpu_in ys p) → (if b then Some x.thread else cpu_in (xs ++ ys) p) ≡ cpu_in ys p
  by true e none rest = let no : ⊥ = cc in absurd no
  by false e none rest = rest none

cpu_other : (xs : List Seat) (y : Seat) (p : ℕ) → (y.cpu == p) ≡ false → cpu_in (xs ++ y ∷ []) p ≡ cpu_in xs p
cpu_other [] y p other = rw other refl
cpu_other (x ∷ xs) y p other = ap (λ o. if x.cpu == p then Some x.thread else o) (cpu_other xs y p other)

no_seat : (xs : List Seat) (p : ℕ) → cpu_in xs p ≡ None → has_seat xs p ≡ false
no_seat [] p none = refl
no_seat (x ∷ xs) p none = by (x.cpu == p) refl none (no_seat xs p) where
  by : (b : Bool) → (x.cpu == p) ≡ b → (if b then Some x.thread else cpu_in xs p) ≡ None → (cpu_in xs p ≡ None → has_seat xs p ≡ false) → (b || has_seat xs p) ≡ false
  by true e none rest = let no : ⊥ = cc in absurd no
  by false e none rest = rest none

-- the processors below a number are noted in each part
abbrev pub HaveSeats : List ClusterPart → List ClusterPart → ℕ → Type 0
HaveSeats old now n = (at p : ℕ) → at < length now → cpu_in (part_at now at).seats p ≡ (if nat_lt p n then seat_in old p else None)

abbrev pub SameLinks : List ClusterPart → List ClusterPart → Type 0
SameLinks old now = (at : ℕ) → (part_at now at).chains ≡ (part_at old at).chains

pub cleared_kept : (old new : List ClusterPart) → new ≡ map without_seats old → map bare new ≡ map bare old
cleared_kept old new is = ap (λ (ps : List ClusterPart). map bare ps) is ∙ mapped_kept bare without_seats (λ p. refl) old

pub cleared_links : (old new : List ClusterPart) → new ≡ map without_seats old → SameLinks old new
cleared_links old new is = λ at. ap (λ (ps : List ClusterPart). (part_at ps at).chains) is ∙ map_kept_at (λ (p : ClusterPart). p.chains) without_seats (λ p. refl) old at

pub cleared_seats : (old new : List ClusterPart) → new ≡ map without_seats old → HaveSeats old new 0
cleared_seats old new is at p within =
    let size : length new ≡ length old = ap (λ (ps : List ClusterPart). length ps) is ∙ length-map old without_seats in
    let none : nat_lt p 0 ≡ false = grind (arith, nat_tests) in
    ap (λ (ps : List ClusterPart). cpu_in (part_at ps at).seats p) is ∙ ap (λ (q : ClusterPart). cpu_in q.seats p) (map_at without_seats old at (omega (arith, within, size))) ∙ sym (ap (λ b. if b then seat_in old p else None) none)

-- whether the next processor is below a number
below_more : (p n : ℕ) (o : Option ℕ) → (p == n) ≡ false → (if nat_lt p n then o else None) ≡ (if nat_lt p (n + 1) then o else None)
below_more p n o other = let same : nat_lt p n ≡ nat_lt p (n + 1) = grind (arith, nat_tests, other) in ap (λ b. if b then o else None) same

below_same : (p : ℕ) (o : Option ℕ) → (if nat_lt p (p + 1) then o else None) ≡ o
below_same p o = let yes : nat_lt p (p + 1) ≡ true = grind (arith, nat_tests) in ap (λ b. if b then o else None) yes

not_below : (p : ℕ) (o : Option ℕ) → (if nat_lt p p then o else None) ≡ None
not_below p o = let no : nat_lt p p ≡ false = grind (arith, nat_tests) in ap (λ b. if b then o else None) no

-- the next processor isn't noted yet
pub free_seat : (old now : List ClusterPart) (p : ℕ) → HaveSeats old now p → AllByRecursion (λ (part : ClusterPart). has_seat part.seats p ≡ false) now
free_seat old now p seats = all_from (λ (part : ClusterPart). has_seat part.seats p ≡ false) now (λ at within. no_seat (part_at now at).seats p (seats at p within ∙ not_below p (seat_in old p)))

pub seat_kept : (old now new : List ClusterPart) (p t : ℕ) → new ≡ map (with_seat p t) now → map bare now ≡ map bare old → map bare new ≡ map bare old
seat_kept old now new p t is kept = ap (λ (ps : List ClusterPart). map bare ps) is ∙ mapped_kept bare (with_seat p t) (λ q. refl) now ∙ kept

pub seat_links : (old now new : List ClusterPart) (p t : ℕ) → new ≡ map (with_seat p t) now → SameLinks old now → SameLinks old new
seat_links old now new p t is links = λ at. ap (λ (ps : List ClusterPart). (part_at ps at).chains) is ∙ map_kept_at (λ (q : ClusterPart). q.chains) (with_seat p t) (λ q. refl) now at ∙ links at

pub one_more_seat : (old now new : List ClusterPart) (p t : ℕ) → new ≡ map (with_seat p t) now → seat_in old p ≡ Some t → HaveSeats old now p → HaveSeats old new (p + 1)
one_more_seat old now new p t is has seats at q within =
    let size : length new ≡ length now = ap (λ (ps : List ClusterPart). length ps) is ∙ length-map now (with_seat p t) in
    let inside : at < length now = omega (arith, within, size) in
    ap (λ (ps : List ClusterPart). cpu_in (part_at ps at).seats q) is ∙ ap (λ (x : ClusterPart). cpu_in x.seats q) (map_at (with_seat p t) now at inside) ∙ by inside (p == q) refl
  where
    by : at < length now → (b : Bool) → (p == q) ≡ b → cpu_in ((part_at now at).seats ++ record { cpu = p; thread = t } ∷ []) q ≡ (if nat_lt q (p + 1) then seat_in old q else None)
    by inside true e =
        let same : p ≡ q = same_number p q e in
        subst (λ r. cpu_in ((part_at now at).seats ++ record { cpu = p; thread = t } ∷ []) r ≡ (if nat_lt r (p + 1) then seat_in old r else None)) same
        (cpu_append (part_at now at).seats (record { cpu = p; thread = t } ∷ []) p (seats at p inside ∙ not_below p (seat_in old p))
        ∙ ap (λ b. if b then Some t else None) (equal_test p p refl) ∙ sym has ∙ sym (below_same p (seat_in old p)))
    by inside false e =
        let other : (q == p) ≡ false = grind (arith, nat_tests, e) in
        cpu_other (part_at now at).seats (record { cpu = p; thread = t }) q e ∙ seats at q inside ∙ below_more q p (seat_in old q) other

pub no_more_seat : (old now : List ClusterPart) (p : ℕ) → seat_in old p ≡ None → HaveSeats old now p → HaveSeats old now (p + 1)
no_more_seat old now p none seats at q within = seats at q within ∙ by (q == p) refl where
  by : (b : Bool) → (q == p) ≡ b → (if nat_lt q p then seat_in old q else None) ≡ (if nat_lt q (p + 1) then seat_in old q else None)
  by true e =
      let same : p ≡ q = sym (same_number q p e) in
      subst (λ r. (if nat_lt r p then seat_in old r else None) ≡ (if nat_lt r (p + 1) then seat_in old r else None)) same (not_below p (seat_in old p) ∙ sym (below_same p (seat_in old p) ∙ none))
  by false e = below_more q p (seat_in old q) e

-- ---- whom they help

-- All parts after links, processors, and whom these help were noted.
pub all_hosted : (old linked seated new : List ClusterPart) → map bare linked ≡ map bare old → map bare seated ≡ map bare linked → HaveLinks old linked 65 → SameLinks linked seated → HaveSeats linked seated 8 →
    new ≡ map hosting_part seated → AllByRecursion Sized new → ((p : ℕ) → 8 ≤ p → seat_in new p ≡ None) → AreHosted new
all_hosted old linked seated new first second links same seats is sizes few =
    hosted_noted new (scene_lent old) (sym (scene_bare old new kept)) (λ at p within. host_read old (part_at new at) p (read at within))
  where
    kept : map bare new ≡ map bare old
    kept = ap (λ (ps : List ClusterPart). map bare ps) is ∙ mapped_kept bare hosting_part (λ p. refl) seated ∙ second ∙ first

    count : length new ≡ length seated
    count = ap (λ (ps : List ClusterPart). length ps) is ∙ length-map seated hosting_part

    there : (at : ℕ) → at < length new → part_at new at ≡ hosting_part (part_at seated at)
    there at within = ap (λ (ps : List ClusterPart). part_at ps at) is ∙ map_at hosting_part seated at (omega (arith, within, count))

    read : (at : ℕ) → at < length new → AreRead old (part_at new at)
    read at within =
        let is_here = there at within in
        let inside : at < length seated = omega (arith, within, count) in
        let before : at < length linked = omega (arith, inside, length_bare linked seated second) in
        let chains : (part_at new at).chains ≡ (part_at linked at).chains = ap (λ (p : ClusterPart). p.chains) is_here ∙ same at in
        record {
          size = all_at Sized new at sizes within;
          links = λ t low. ap (λ ls. link_of ls t) chains ∙ links at t before (omega (arith, low));
          seats = λ p. ap (λ (q : ClusterPart). cpu_in q.seats p) is_here ∙ seats at p inside ∙ ap (λ (f : ℕ → Option ℕ). if nat_lt p 8 then f p else None) (seats_bare old linked first);
          few = λ p high. sym (ap (λ (f : ℕ → Option ℕ). f p) (seats_bare old new kept)) ∙ few p high;
          hosting = subst (λ (q : ClusterPart). q.hosting ≡ hosts_of (scene_in q.chains q.seats) q.seats) (sym is_here) refl;
        }

pub idle_kept : (old new : List ClusterPart) → new ≡ map idle_part old → map bare new ≡ map bare old
idle_kept old new is = ap (λ (ps : List ClusterPart). map bare ps) is ∙ mapped_kept bare idle_part (λ p. refl) old

pub hosting_kept : (old new : List ClusterPart) → new ≡ map hosting_part old → map bare new ≡ map bare old
hosting_kept old new is = ap (λ (ps : List ClusterPart). map bare ps) is ∙ mapped_kept bare hosting_part (λ p. refl) old

pub none_hosted : (old new : List ClusterPart) → has_spinner (scene_lent old) ≡ false → new ≡ map idle_part old → ((p : ℕ) → 8 ≤ p → seat_in new p ≡ None) → AreHosted new
none_hosted old new none is few =
    hosted_none new (scene_lent old) (sym (scene_bare old new (idle_kept old new is))) none (λ p high. sym (ap (λ (f : ℕ → Option ℕ). f p) (seats_bare old new (idle_kept old new is))) ∙ few p high)
    (λ at within. (let size : length new ≡ length old = ap (λ (ps : List ClusterPart). length ps) is ∙ length-map old idle_part in ap (λ (ps : List ClusterPart). (part_at ps at).hosting) is ∙ ap (λ (p : ClusterPart). p.hosting) (map_at idle_part old at (omega (arith, within, size)))))

-- ---- what is on a processor

pub none_there : (o : Option ℕ) → ((t : ℕ) → o ≡ Some t → ⊥) → o ≡ None
none_there None none = refl
none_there (Some t) none = absurd (none t refl)

-- parts that are as before but for their rooms have the thread on a processor that they had
pub there_still : (old now : List ClusterPart) (p : ℕ) → map bare now ≡ map bare old → seat_in old p ≡ seat_in now p
there_still old now p kept = sym (ap (λ (f : ℕ → Option ℕ). f p) (seats_bare old now kept))

-- ---- where no thread spins

none_held : (parts : List ClusterPart) (t : ℕ) → AllByRecursion IsStill parts → is_spinning (held parts t).wait ≡ false
none_held [] t all = refl
none_held (p ∷ ps) t all = by (lives_in p t) (none_held ps t all.1) where
  by : (b : Bool) → is_spinning (held ps t).wait ≡ false → is_spinning (if b then placed_in p t else held ps t).wait ≡ false
  by true rest = all.0.none t
  by false rest = rest

none_lent : (parts : List ClusterPart) (t : ℕ) → AllByRecursion IsStill parts → is_spinning (thread_lent parts t).wait ≡ false
none_lent parts zero all = refl
none_lent parts (suc i) all = ⊎_elim
    (λ low. ap (λ (x : Thread). is_spinning x.wait) (thread_held parts (suc i) (omega arith) (omega (arith, low))) ∙ none_held parts (suc i) all)
    (λ high. ap (λ (x : Thread). is_spinning x.wait) (get_or_past (threads_of parts) i no_thread (omega (arith, length_threads parts, high))))
    (cases_lt i 64)

-- no processor has one that does
pub none_spins : (parts : List ClusterPart) → AllByRecursion IsStill parts → has_spinner (scene_lent parts) ≡ false
unfolding has_spinner
none_spins parts all = below 8 where
  at : (o : Option ℕ) → spins_at (scene_lent parts) o ≡ false
  at None = refl
  at (Some u) = none_lent parts u all

  below : (n : ℕ) → spins_below (scene_lent parts) n ≡ false
  below zero = refl
  below (suc n) = rw (at (seat_in parts n)) (below n)

-- such parts note already that none is helped
pub still_idle : (parts : List ClusterPart) → AllByRecursion IsStill parts → parts ≡ map idle_part parts
still_idle [] all = refl
still_idle (p ∷ ps) all = cc (ap (λ (h : List Seat). record p { hosting = h }) all.0.idle, still_idle ps all.1)

-- one part more that is still
pub one_more_still : (parts : List ClusterPart) (at : ℕ) (part : ClusterPart) → at < length parts → part ≡ get_or parts at part → IsStill part → AllByRecursion IsStill (take at parts) → AllByRecursion IsStill (take (at + 1) parts)
one_more_still parts at part within is still all = subst (AllByRecursion IsStill) (sym (take_more parts at part within)) (pushed (take at parts) all (subst IsStill is still)) where
  pushed : (ps : List ClusterPart) → AllByRecursion IsStill ps → IsStill (get_or parts at part) → AllByRecursion IsStill (ps ++ get_or parts at part ∷ [])
  pushed [] all one = (one, tt)
  pushed (p ∷ ps) all one = (all.0, pushed ps all.1 one)

-- ---- a processor whose thread doesn't spin

not_offered : (parts : List ClusterPart) (t : ℕ) → is_spinning (thread_lent parts t).wait ≡ false → offer (scene_lent parts) t ≡ None
unfolding offer
not_offered parts t still = rw still refl

helps_none : (parts : List ClusterPart) (p t : ℕ) → seat_in parts p ≡ Some t → is_spinning (thread_lent parts t).wait ≡ false → helped_in (scene_lent parts) p ≡ None
unfolding helped_in
helps_none parts p t has still = ap (helped_by (scene_lent parts) p) (ap (offer_of (scene_lent parts)) has ∙ not_offered parts t still)

-- it runs the thread
pub runs_own : (s : Scenario) (table : Table) (groups : List GroupPart) (parts : List ClusterPart) (p t : ℕ) → seat_in parts p ≡ Some t → is_spinning (thread_lent parts t).wait ≡ false → ShowRunning s groups parts
    → Runs t ≡ running (joined s table parts groups) p
runs_own s table groups parts p t has still show =
    let k = joined s table parts groups in
    ap (λ (b : Bool). if b then Spins t else Runs t) (sym still)
    ∙ ap (view_of k (Some t)) (sym (show.hosted p ∙ helps_none parts p t has still))
    ∙ ap (λ o. view_of k o (hosted_in parts p)) (sym has)
    ∙ viewed s table groups parts p show
