-- To put a thread in its place of the lent parts is to put it in the state that they stand for.
use Rattle.std.proofs.Common.{◌≡◌, ℕ, zero, suc, ◌+◌, ◌<◌, ◌≤◌, List, [], ◌∷◌, Bool, true, false, cond, ◌==◌, Option, Some, None, length, subst, arith, refl, sym, ap, ◌∙◌, get_or, set, ⊎_elim, length-set}
use Rattle.std.specs.Prelude.{IsSome}
use Rattle.std.specs.Bool.{if◌then◌else◌}
use Rattle.std.proofs.lemmas.Bool.{false≢true, cases_lt}
use Rattle.std.proofs.lemmas.Bool.Decides.{nat_tests}
use Rattle.std.proofs.lemmas.List.{get_or-set_same, get_or-set_other, get_or_past}
use Rattle.rk_model.specs.declared.scenario.Scenario.{Scenario}
use Rattle.rk_model.specs.declared.settling.Standing.{Standing}
use Rattle.rk_line.specs.declared.line.Place.{Place}
use Rattle.rk_model.specs.declared.state.Thread.{Thread}
use Rattle.rk_model.specs.Lists.{nth, with_nth}
use Rattle.rk_model.specs.Names.{Table}
use Rattle.rk_model.specs.State.{Plain, ClusterState, no_thread, put_thread}
use Rattle.rk_model.specs.Directives.Objects.{has_begun}
use Rattle.rk_model.proofs.IndexLemmas.{nth-with_other, nth-with_same, nth-with_kept, length-with_nth}
use Rattle.rk_parts.specs.declared.parts.ClusterPart.{ClusterPart}
use Rattle.rk_groups.specs.declared.group.GroupPart.{GroupPart}
use Rattle.rk_parts.specs.Joined.{cluster_of, placed_in, lives_in, held, numbered, present_of, threads_of, clusters_of, clusters_by, joined, thread_lent}
use Rattle.rk_parts.specs.Lent.{found_in, Puts, layouts, stored}
use Rattle.rk_agg.specs.Shares.{found, Shares}
use Rattle.rk_parts.specs.declared.bearing.Bearing.{Bearing}
use Rattle.rk_parts.specs.declared.holdings.Holding.{Holding}
use Rattle.rk_parts.specs.Contributions.{bears, contributed}
use Rattle.rk_parts.specs.Holdings.{holder, holdings}
use Rattle.rk_parts.specs.Threads.{Threads, bearing, bearing_at, bearings_by, stands_by, standing_at, standings_by}
use Rattle.rk_groups.specs.GroupObjects.{listed}
use Rattle.rk_parts.specs.Noted.{part_at, no_part, bearings_in, standings_in, key_of, IsKeyed, AreLent, AreNoted}
use Rattle.rk_groups.proofs.ListedLemmas.{get_or-listed, length-listed, same_listed, set-listed}
use Rattle.rk_parts.proofs.HeldLemmas.{held_found, held_else, held_put, held_nowhere, found_lives, found_within}
use Rattle.rk_parts.proofs.LayoutLemmas.{layout_put, layouts_same, stored_same, holdings_same, accounts_same, outline_same}

-- a thread that lives is one of these
pub lives_within : (threads : List Thread) (u : ℕ) → has_begun (nth no_thread threads u).life ≡ true → (0 < u) × (u ≤ length threads)
lives_within threads zero live = absurd (false≢true live)
lives_within threads (suc i) live =
    ⊎_elim (λ w. let low : 0 < suc i = omega arith in let high : suc i ≤ length threads = omega (arith, w) in (low, high))
    (λ w. absurd (false≢true (rw (get_or_past threads i no_thread w) at live))) (cases_lt i (length threads))

-- the thread of an index in the state that parts stand for
pub thread_held : (parts : List ClusterPart) (t : ℕ) → 1 ≤ t → t ≤ 64 → thread_lent parts t ≡ held parts t
unfolding threads_of
thread_held parts zero low high = absurd (omega (arith, low))
thread_held parts (suc i) low high = let e : 1 + i ≡ suc i = omega arith in get_or-listed (held parts) 1 64 i no_thread (omega (arith, high)) ∙ ap (held parts) e

-- there are 64 places for threads
pub length_threads : (parts : List ClusterPart) → length (threads_of parts) ≡ 64
unfolding threads_of
length_threads parts = length-listed (held parts) 1 64

pub length_clusters : (counts : List ℕ) (parts : List ClusterPart) → length (clusters_of counts parts) ≡ length counts
unfolding clusters_by
length_clusters counts parts = length-listed (numbered counts parts) 0 (length counts)

-- where the threads that parts hold are those of others but for one, so are those of the state
pub threads_put : (old new : List ClusterPart) (t : ℕ) (x : Thread) → 1 ≤ t → ((u : ℕ) → held new u ≡ cond (u == t) x (held old u)) → threads_of new ≡ with_nth (threads_of old) t x
unfolding threads_of
threads_put old new zero x low same = absurd (omega (arith, low))
threads_put old new (suc i) x low same =
    let e : 1 + i ≡ suc i = omega arith in
    set-listed (held old) (held new) 1 64 i x (λ u. same u ∙ ap (λ t. cond (u == t) x (held old u)) (sym e))

-- a part in which another thread stands
abbrev pub with_thread : ClusterPart → ℕ → Thread → ClusterPart
with_thread part t x = record part { threads = record part.threads { places = with_nth part.threads.places t x } }

pub placed_other : (part : ClusterPart) (t u : ℕ) (x : Thread) → (u == t) ≡ false → placed_in (with_thread part t x) u ≡ placed_in part u
placed_other part t u x e = nth-with_other no_thread x part.threads.places t u (λ q. false≢true (sym e ∙ grind (arith, nat_tests, q)))

pub placed_same : (part : ClusterPart) (t : ℕ) (x : Thread) → 1 ≤ t → t ≤ length part.threads.places → placed_in (with_thread part t x) t ≡ x
placed_same part t x low within = nth-with_same no_thread x part.threads.places t (omega (arith, low)) within

-- the threads that are held after one was put, where it is held then
pub held_with : (parts : List ClusterPart) (at t : ℕ) (x : Thread) → held (set parts at (with_thread (part_at parts at) t x)) t ≡ x → (u : ℕ) → held (set parts at (with_thread (part_at parts at) t x)) u ≡ cond (u == t) x (held parts u)
held_with parts at t x here u = by (u == t) refl where
  by : (b : Bool) → (u == t) ≡ b → held (set parts at (with_thread (part_at parts at) t x)) u ≡ cond b x (held parts u)
  by true e = let same : u ≡ t = grind (arith, nat_tests, e) in ap (held (set parts at (with_thread (part_at parts at) t x))) same ∙ here
  by false e = held_else parts at u (with_thread (part_at parts at) t x) (placed_other (part_at parts at) t u x e)

-- a part with the same cluster and timers stands for the same cluster
pub numbered_same : (counts : List ℕ) (parts : List ClusterPart) (at c : ℕ) (part : ClusterPart) → part.lined ≡ (part_at parts at).lined → part.timers ≡ (part_at parts at).timers → numbered counts (set parts at part) c ≡ numbered counts parts c
numbered_same counts [] at c part e f = refl
numbered_same counts (p ∷ ps) zero c part e f = rw (e, f) refl
numbered_same counts (p ∷ ps) (suc at) c part e f = ap (λ rest. if p.lined.number == c then cluster_of p else rest) (numbered_same counts ps at c part e f)

pub clusters_same : (counts : List ℕ) (old new : List ClusterPart) → ((c : ℕ) → numbered counts new c ≡ numbered counts old c) → clusters_of counts new ≡ clusters_of counts old
unfolding clusters_by
clusters_same counts old new same = same_listed (numbered counts new) (numbered counts old) 0 (length counts) same

pub present_same : (parts : List ClusterPart) (at : ℕ) (part : ClusterPart) → part.present ≡ (part_at parts at).present → present_of (set parts at part) ≡ present_of parts
present_same [] at part e = refl
present_same (p ∷ ps) zero part e = e
present_same (p ∷ ps) (suc at) part e = refl

-- what parts of clusters stand for that have these clusters and threads
pub clusters_joined : (s : Scenario) (table : Table) (groups : List GroupPart) (old new : List ClusterPart) (clusters : List ClusterState) (threads : List Thread) → present_of new ≡ present_of old → clusters_of s.clusters new ≡ clusters → threads_of new ≡ threads → joined s table new groups ≡ (let k : Plain = record (joined s table old groups) { clusters = clusters; threads = threads } in k)
clusters_joined s table groups old new clusters threads e f g = λ i. record (joined s table old groups) { present = e i; clusters = f i; threads = g i }

-- a thread that is put in the parts is put in the state
pub put_joined : (s : Scenario) (table : Table) (groups : List GroupPart) (old new : List ClusterPart) (t : ℕ) (x : Thread) → present_of new ≡ present_of old → clusters_of s.clusters new ≡ clusters_of s.clusters old → threads_of new ≡ with_nth (threads_of old) t x → joined s table new groups ≡ put_thread (joined s table old groups) t x
put_joined s table groups old new t x e f g = clusters_joined s table groups old new (clusters_of s.clusters old) (with_nth (threads_of old) t x) e f g

-- one thread of one part put
pub state_put : (s : Scenario) (table : Table) (groups : List GroupPart) (parts : List ClusterPart) (at t : ℕ) (x : Thread) → 1 ≤ t → held (set parts at (with_thread (part_at parts at) t x)) t ≡ x →
    joined s table (set parts at (with_thread (part_at parts at) t x)) groups ≡ put_thread (joined s table parts groups) t x
state_put s table groups parts at t x low here =
    let part = with_thread (part_at parts at) t x in
    put_joined s table groups parts (set parts at part) t x (present_same parts at part refl)
    (clusters_same s.clusters parts (set parts at part) (λ c. numbered_same s.clusters parts at c part refl refl))
    (threads_put parts (set parts at part) t x low (held_with parts at t x here))

-- the part at a place, whatever stands for none
pub part_is : (parts : List ClusterPart) (at : ℕ) (part : ClusterPart) → at < length parts → get_or parts at part ≡ part_at parts at
part_is [] at part within = absurd (never at within) where
  never : (at : ℕ) → at < 0 → ⊥
  never at h = omega (arith, h)
part_is (p ∷ ps) zero part within = refl
part_is (p ∷ ps) (suc at) part within = part_is ps at part (omega (arith, within))

-- the parts after a thread was put, as the code has them
pub as_put : (parts : List ClusterPart) (at t : ℕ) (part : ClusterPart) (threads : Threads) (x : Thread) → at < length parts → threads ≡ (let ts : Threads = record (get_or parts at part).threads { places = with_nth (get_or parts at part).threads.places t x } in ts) →
    set parts at (record (get_or parts at part) { threads = threads }) ≡ set parts at (with_thread (part_at parts at) t x)
as_put parts at t part threads x within put =
    ap (λ (ts : Threads). set parts at (record (get_or parts at part) { threads = ts })) put
    ∙ ap (λ (p : ClusterPart). set parts at (with_thread p t x)) (part_is parts at part within)

-- a place at which a thread lives is one of a part's places
pub lives_size : (part : ClusterPart) (t : ℕ) → lives_in part t ≡ true → t ≤ length part.threads.places
lives_size part zero h = omega arith
lives_size part (suc i) h = ⊎_elim (λ less. omega (arith, less)) (λ more. absurd (false≢true (sym (ap (λ (x : Thread). has_begun x.life) (get_or_past part.threads.places i no_thread more)) ∙ h))) (cases_lt i (length part.threads.places))

-- to put a thread that lives, with the same home, where one lives
pub put_puts : (parts : List ClusterPart) (at t : ℕ) (x : Thread) → 1 ≤ t → t ≤ 64 → found_in parts t ≡ Some at → has_begun (thread_lent parts t).life ≡ true → has_begun x.life ≡ true → x.home ≡ (thread_lent parts t).home →
    Puts parts t x (set parts at (with_thread (part_at parts at) t x))
put_puts parts at t x low high found lives life home =
    let within = lives_size (part_at parts at) t (found_lives parts at t found) in
    let part = part_at parts at in
    let now = with_thread part t x in
    let is : thread_lent parts t ≡ placed_in part t = thread_held parts t low high ∙ held_found parts at t found in
    let new : placed_in now t ≡ x = placed_same part t x low within in
    let there : lives_in now t ≡ true = ap (λ (y : Thread). has_begun y.life) new ∙ life in
    let here : held (set parts at now) t ≡ x = held_put parts at t now found there ∙ new in
    let lived : has_begun (placed_in part t).life ≡ true = ap (λ (y : Thread). has_begun y.life) (sym is) ∙ lives in
    let lies : layouts (set parts at now) ≡ layouts parts = layouts_same parts at now (layout_put part t x (outline_same x (placed_in part t) life lived (home ∙ ap (λ (y : Thread). y.home) is))) in
    let keeps : stored (set parts at now) ≡ stored parts = stored_same parts at now refl in
    record {
      threads = threads_put parts (set parts at now) t x low (held_with parts at t x here);
      clusters = λ i counts. clusters_same counts parts (set parts at now) (λ c. numbered_same counts parts at c now refl refl) i;
      present = present_same parts at now refl;
      kept = λ i. record { layouts = lies i; stored = keeps i; accounts = accounts_same parts at now refl i };
      held = holdings_same parts at now refl;
    }

-- the part at a place, where one is another
pub part_set : (parts : List ClusterPart) (at i : ℕ) (part : ClusterPart) → at < length parts → part_at (set parts at part) i ≡ cond (i == at) part (part_at parts i)
part_set parts at i part within = by (i == at) refl where
  by : (b : Bool) → (i == at) ≡ b → part_at (set parts at part) i ≡ cond b part (part_at parts i)
  by true e = let same : i ≡ at = grind (arith, nat_tests, e) in ap (part_at (set parts at part)) same ∙ get_or-set_same parts at part no_part within
  by false e = get_or-set_other parts at i part no_part (λ q. grind (arith, nat_tests, e, q))

-- what a part has like the one before it, the parts have as before
pub part_kept : {X : Type 0} (f : ClusterPart → X) (parts : List ClusterPart) (at i : ℕ) (part : ClusterPart) → at < length parts → f part ≡ f (part_at parts at) → f (part_at (set parts at part) i) ≡ f (part_at parts i)
part_kept f parts at i part within e = ap f (part_set parts at i part within) ∙ by (i == at) refl where
  by : (b : Bool) → (i == at) ≡ b → f (cond b part (part_at parts i)) ≡ f (part_at parts i)
  by true q = let same : i ≡ at = grind (arith, nat_tests, q) in e ∙ ap (λ j. f (part_at parts j)) (sym same)
  by false q = refl

-- a thread that bears what the one before it bore leaves all standings, and all that is borne
standings_set : (shares : Shares) (xs : List Thread) (t : ℕ) (x : Thread) → bearing x ≡ bearing (nth no_thread xs t) → standings_by shares (with_nth xs t x) ≡ standings_by shares xs
unfolding standings_by
standings_set shares xs t x e =
    ap (λ n. listed (standing_at shares (with_nth xs t x)) 1 n) (length-with_nth x xs t)
    ∙ same_listed (standing_at shares (with_nth xs t x)) (standing_at shares xs) 1 (length xs) (λ u. ap (stands_by shares u) (nth-with_kept bearing no_thread x xs t u e))

bearings_set : (xs : List Thread) (t : ℕ) (x : Thread) → bearing x ≡ bearing (nth no_thread xs t) → bearings_by (with_nth xs t x) ≡ bearings_by xs
unfolding bearings_by
bearings_set xs t x e =
    ap (λ n. listed (bearing_at (with_nth xs t x)) 1 n) (length-with_nth x xs t)
    ∙ same_listed (bearing_at (with_nth xs t x)) (bearing_at xs) 1 (length xs) (λ u. nth-with_kept bearing no_thread x xs t u e)

-- what a part tells of contributions
pub record Told : Type 0 where
  pub number : ℕ
  pub shares : Shares

abbrev pub told_in : ClusterPart → Told
told_in part = record { number = part.lined.number; shares = part.threads.shares }

-- parts that tell the same have the contributions of threads that bear the same, where semaphores are held alike
pub lent_alike : (bear bear' : ℕ → Bearing) (hold hold' : ℕ → Option Holding) (old new : List ClusterPart) → length new ≡ length old → ((at : ℕ) → told_in (part_at new at) ≡ told_in (part_at old at)) → bear' ≡ bear → hold' ≡ hold → AreLent bear hold old → AreLent bear' hold' new
lent_alike bear bear' hold hold' old new size told bears holds lent = record {
  own = λ at t u less one other.
      ap (λ (x : Told). found x.shares t x.number u) (told at)
      ∙ lent.own at t u (rw size at less) one other
      ∙ ap (λ (x : Told). contributed bear hold t x.number u) (sym (told at))
      ∙ ap (λ f. contributed f hold t (part_at new at).lined.number u) (sym bears)
      ∙ ap (λ f. contributed bear' f t (part_at new at).lined.number u) (sym holds);
  elsewhere = λ at t d u less other. ap (λ (x : Told). found x.shares t d u) (told at) ∙ lent.elsewhere at t d u (rw size at less) (λ q. other (q ∙ ap (λ (x : Told). x.number) (sym (told at))));
}

-- a ready queue and the standings by which it is ranked
pub record Ranked : Type 0 where
  pub stood : List Standing
  pub line : List Place

abbrev pub keys_in : ClusterPart → Ranked
keys_in part = record { stood = part.threads.stood; line = part.lined.line }

-- to put a thread that bears what the one before it bore leaves all noted
pub noted_put : (count : ℕ) (parts : List ClusterPart) (at t : ℕ) (x : Thread) → 1 ≤ t → t ≤ 64 → found_in parts t ≡ Some at → bearing x ≡ bearing (thread_lent parts t) → AreNoted count parts → AreNoted count (set parts at (with_thread (part_at parts at) t x))
noted_put count parts at t x low high found same noted =
    let part = part_at parts at in
    let now = with_thread part t x in
    let within = found_within parts at t found in
    let place : thread_lent parts t ≡ placed_in part t = thread_held parts t low high ∙ held_found parts at t found in
    let bear : bearing x ≡ bearing (placed_in part t) = same ∙ ap bearing place in
    let stands : standings_in now ≡ standings_in part = standings_set part.threads.shares part.threads.places t x bear in
    let bore : bearings_in now ≡ bearings_in part = bearings_set part.threads.places t x bear in
    let lives : has_begun (placed_in now t).life ≡ true = ap (λ (y : Thread). has_begun y.life) (placed_same part t x low (lives_size part t (found_lives parts at t found))) ∙ ap (λ (b : Bearing). has_begun b.life) bear ∙ found_lives parts at t found in
    let here : held (set parts at now) t ≡ x = held_put parts at t now found lives ∙ placed_same part t x low (lives_size part t (found_lives parts at t found)) in
    let threads = threads_put parts (set parts at now) t x low (held_with parts at t x here) in
    record {
      stood = λ i. part_kept (λ (p : ClusterPart). p.threads.stood) parts at i now within refl ∙ noted.stood i ∙ sym (part_kept standings_in parts at i now within stands);
      borne = λ i. part_kept (λ (p : ClusterPart). p.threads.borne) parts at i now within refl ∙ noted.borne i ∙ sym (part_kept bearings_in parts at i now within bore);
      held = λ i. part_kept (λ (p : ClusterPart). p.holdings.noted) parts at i now within refl ∙ noted.held i ∙ sym (part_kept (λ (p : ClusterPart). p.holdings.owners) parts at i now within refl);
      shares = lent_alike (bears parts) (bears (set parts at now)) (holder (holdings parts)) (holder (holdings (set parts at now))) parts (set parts at now) (length-set parts at now) (λ i. part_kept told_in parts at i now within refl)
          (λ i u. (ap (λ (ts : List Thread). bearing (nth no_thread ts u)) threads ∙ nth-with_kept bearing no_thread x (threads_of parts) t u same) i)
          (λ i. holder (holdings_same parts at now refl i))
          noted.shares;
      keyed = λ i known. subst (λ (k : Ranked). IsKeyed (key_of k.stood) k.line) (sym (part_kept keys_in parts at i now within refl)) (noted.keyed i (rw (part_kept (λ (p : ClusterPart). p.lined.number) parts at i now within refl) at known));
    }

-- what is found somewhere isn't found nowhere
pub some_none : (o : Option ℕ) → IsSome o → o ≡ None → ⊥
some_none None h e = false≢true h
some_none (Some n) h e = cc

-- a thread that lives is found
pub never_found : (parts : List ClusterPart) (t : ℕ) → 1 ≤ t → t ≤ 64 → found_in parts t ≡ None → has_begun (thread_lent parts t).life ≡ true → ⊥
never_found parts t low high none lives = false≢true (sym (ap (λ (x : Thread). has_begun x.life) (thread_held parts t low high ∙ held_nowhere parts t none)) ∙ lives)

-- where a thread is found it stands
pub thread_found : (parts : List ClusterPart) (at t : ℕ) (part : ClusterPart) → 1 ≤ t → t ≤ 64 → found_in parts t ≡ Some at → thread_lent parts t ≡ placed_in (get_or parts at part) t
thread_found parts at t part low high found =
    thread_held parts t low high ∙ held_found parts at t found ∙ ap (λ (p : ClusterPart). placed_in p t) (sym (part_is parts at part (found_within parts at t found)))
