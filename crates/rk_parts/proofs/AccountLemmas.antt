-- The accounts of contributions before and after a change: what a change that keeps them can rely on, and what it is to make contributions anew.
use Rattle.std.proofs.Common.{◌≡◌, ℕ, zero, suc, List, [], ◌∷◌, ◌==◌, Option, Some, length, map, get_or, refl, sym, ap, ◌∙◌}
use Rattle.std.specs.Bool.{if◌then◌else◌}
use Rattle.std.proofs.lemmas.List.{length-map}
use Rattle.rk_model.specs.declared.scenario.Scenario.{Scenario}
use Rattle.rk_model.specs.declared.state.Thread.{Thread}
use Rattle.rk_model.specs.Lists.{nth}
use Rattle.rk_model.specs.Names.{Table}
use Rattle.rk_model.specs.Directives.Objects.{has_begun}
use Rattle.rk_model.specs.Scheduling.Priorities.{home_prio, or_least_urgent, prio}
use Rattle.rk_agg.specs.Shares.{found, least_source}
use Rattle.rk_groups.specs.declared.group.GroupPart.{GroupPart}
use Rattle.rk_groups.specs.GroupObjects.{semaphores_of}
use Rattle.rk_groups.proofs.FoundLemmas.{found_here, found_later}
use Rattle.rk_groups.proofs.ListedLemmas.{same_listed}
use Rattle.rk_parts.specs.declared.bearing.Bearing.{Bearing}
use Rattle.rk_parts.specs.declared.holdings.Holding.{Holding}
use Rattle.rk_parts.specs.declared.parts.ClusterPart.{ClusterPart}
use Rattle.rk_parts.specs.Contributing.{bears_at, bore_at, flat, AreHomed, AreHomes, Lives}
use Rattle.rk_parts.specs.Contributions.{bears, bore, bore_in, borne_of, IsOne}
use Rattle.rk_parts.specs.Holdings.{holder, holdings, noted_holdings, AreHeld}
use Rattle.rk_parts.specs.Joined.{cluster_of, held, joined, numbered, present_of, clusters_by, clusters_of, thread_lent, threads_of}
use Rattle.rk_parts.specs.Lending.{home_prio_lent, prio_lent}
use Rattle.rk_parts.specs.Lent.{number_in, layout, layouts, Account, account_in, accounts, Stored, stored_in, stored}
use Rattle.rk_parts.specs.Noted.{no_part, part_at, AreLent, AreNoted}
use Rattle.rk_parts.specs.Threads.{bearing, no_bearing}
use Rattle.rk_parts.proofs.ContributionLemmas.{bears_as_borne, flat_bears, flat_holdings, flat_kept, flat_threads}
use Rattle.rk_parts.proofs.HeldLemmas.{held_found, found_lives, found_within, lives_found}
use Rattle.rk_parts.proofs.LayoutLemmas.{Lie}
use Rattle.rk_parts.proofs.PriorityLemmas.{priorities_are}
use Rattle.rk_parts.proofs.PutLemmas.{clusters_joined, lent_alike}
use Rattle.rk_parts.proofs.ReplaceLemmas.{number_is, number_within}
use Rattle.rk_parts.proofs.SettledPartLemmas.{same_stored, thread_any}
use Rattle.rk_parts.proofs.StandingLemmas.{bearings_say}

-- ---- what accounts tell

account_at : (parts : List ClusterPart) (i : ℕ) → get_or (accounts parts) i (account_in no_part) ≡ account_in (part_at parts i)
account_at [] i = refl
account_at (p ∷ ps) zero = refl
account_at (p ∷ ps) (suc i) = account_at ps i

pub same_account : (old new : List ClusterPart) (i : ℕ) → accounts new ≡ accounts old → account_in (part_at new i) ≡ account_in (part_at old i)
same_account old new i e = sym (account_at new i) ∙ ap (λ (xs : List Account). get_or xs i (account_in no_part)) e ∙ account_at old i

-- what a thread bore, by accounts
bore_by : List Account → ℕ → Bearing
bore_by [] t = no_bearing
bore_by (a ∷ more) t = if has_begun (nth no_bearing a.borne t).life then nth no_bearing a.borne t else bore_by more t

bore_told : (parts : List ClusterPart) (t : ℕ) → bore_in parts t ≡ bore_by (accounts parts) t
unfolding bore_by
bore_told [] t = refl
bore_told (p ∷ ps) t = ap (λ b. if has_begun (nth no_bearing p.threads.borne t).life then nth no_bearing p.threads.borne t else b) (bore_told ps t)

pub bore_kept : (old new : List ClusterPart) → accounts new ≡ accounts old → bore new ≡ bore old
unfolding borne_of
bore_kept old new e = λ i t. nth no_bearing (same_listed (bore_in new) (bore_in old) 1 64 (λ u. bore_told new u ∙ ap (λ (xs : List Account). bore_by xs u) e ∙ sym (bore_told old u)) i) t

noted_told : (parts : List ClusterPart) → noted_holdings parts ≡ map (λ (a : Account). a.held) (accounts parts)
noted_told [] = refl
noted_told (p ∷ ps) = ap (λ (hs : List (List (Option Holding))). p.holdings.noted ∷ hs) (noted_told ps)

pub noted_kept : (old new : List ClusterPart) → accounts new ≡ accounts old → noted_holdings new ≡ noted_holdings old
noted_kept old new e = noted_told new ∙ ap (λ (xs : List Account). map (λ (a : Account). a.held) xs) e ∙ sym (noted_told old)

-- ---- parts in which all is noted

-- in them threads bore what they bear, and held semaphores as they hold them
pub bore_noted : (count : ℕ) (parts : List ClusterPart) → AreNoted count parts → bore parts ≡ bears parts
bore_noted count parts noted = λ i t. sym (bears_as_borne parts t (λ at less. sym (bearings_say (part_at parts at).threads.places t) ∙ ap (λ (bs : List Bearing). nth no_bearing bs t) (sym (noted.borne at)))) i

pub held_noted : (count : ℕ) (parts : List ClusterPart) → AreNoted count parts → noted_holdings parts ≡ holdings parts
held_noted count parts noted = by parts noted.held where
  by : (parts : List ClusterPart) → ((at : ℕ) → (part_at parts at).holdings.noted ≡ (part_at parts at).holdings.owners) → noted_holdings parts ≡ holdings parts
  by [] same = refl
  by (p ∷ ps) same = rw (same 0, by ps (λ at. same (suc at))) refl

-- ---- a change that keeps accounts

-- its contributions are those from before it
pub lent_noted : (count : ℕ) (before mid : List ClusterPart) → AreNoted count before → stored mid ≡ stored before → accounts mid ≡ accounts before → AreLent (bore mid) (holder (noted_holdings mid)) mid
lent_noted count before mid noted kept same =
    lent_alike (bears before) (bore mid) (holder (holdings before)) (holder (noted_holdings mid)) before mid
    (sym (length-map mid stored_in) ∙ ap (λ (ss : List Stored). length ss) kept ∙ length-map before stored_in)
    (λ at i. record { number = (same_stored before mid at kept i).lined.number; shares = (same_account before mid at same i).shares })
    (bore_kept before mid same ∙ bore_noted count before noted)
    (λ i. holder ((noted_kept before mid same ∙ held_noted count before noted) i))
    noted.shares

-- and where a thread lived, there is the part of its home
pub lives_noted : (count : ℕ) (counts : List ℕ) (before mid : List ClusterPart) → Lie counts before → AreNoted count before → stored mid ≡ stored before → accounts mid ≡ accounts before → Lives mid
lives_noted count counts before mid lies noted kept same u alive =
    let bear : bore mid u ≡ bearing (held before u) = ap (λ f. f u) (bore_kept before mid same ∙ bore_noted count before noted) ∙ ap bearing (thread_any counts before u lies) in
    let f = lives_found before u (sym (ap (λ (b : Bearing). has_begun b.life) bear) ∙ alive) in
    let within = found_within before f.at u f.found in
    let size : length mid ≡ length before = sym (length-map mid stored_in) ∙ ap (λ (ss : List Stored). length ss) kept ∙ length-map before stored_in in
    let home : (held before u).home ≡ (part_at before f.at).lined.number = ap (λ (x : Thread). x.home) (held_found before f.at u f.found) ∙ lies.home f.at u (found_lives before f.at u f.found) in
    (f.at, (rw size within, ap (λ (x : Stored). x.lined.number) (same_stored before mid f.at kept) ∙ sym home ∙ sym (ap (λ (b : Bearing). b.home) bear)))

-- threads live in the parts of their homes
homed_lie : (counts : List ℕ) (parts : List ClusterPart) → Lie counts parts → AreHomed bears_at parts
homed_lie counts parts lies = record { once = λ i j t a b. lies.once i j t a b; home = λ i t a. lies.home i t a }

-- as they did before it
pub homes_noted : (count : ℕ) (counts : List ℕ) (before mid : List ClusterPart) → Lie counts before → Lie counts mid → AreNoted count before → stored mid ≡ stored before → accounts mid ≡ accounts before → AreHomes mid
homes_noted count counts before mid lies lie_mid noted kept same = record {
  apart = lie_mid.apart;
  now = homed_lie counts mid lie_mid;
  before = record {
    once = λ i j t a b. lies.once i j t (sym (lived i t) ∙ a) (sym (lived j t) ∙ b);
    home = λ i t a. ap (λ (b : Bearing). b.home) (bore_as i t) ∙ lies.home i t (sym (lived i t) ∙ a) ∙ sym (ap (λ (x : Stored). x.lined.number) (same_stored before mid i kept));
  };
} where
  bore_as : (i t : ℕ) → bore_at (part_at mid i) t ≡ bears_at (part_at before i) t
  bore_as i t = ap (λ (bs : List Bearing). nth no_bearing bs t) (ap (λ (a : Account). a.borne) (same_account before mid i same) ∙ noted.borne i) ∙ bearings_say (part_at before i).threads.places t

  lived : (i t : ℕ) → has_begun (bore_at (part_at mid i) t).life ≡ has_begun (bears_at (part_at before i) t).life
  lived i t = ap (λ (b : Bearing). has_begun b.life) (bore_as i t)

-- ---- contributions made anew

-- they are those of the threads as they are then
pub lent_flat : (mid new : List ClusterPart) → map flat new ≡ map flat mid → AreLent (bears mid) (holder (holdings mid)) new → AreLent (bears new) (holder (holdings new)) new
lent_flat mid new flats lent =
    lent_alike (bears mid) (bears new) (holder (holdings mid)) (holder (holdings new)) new new refl (λ at. refl) (flat_bears mid new flats) (λ i. holder (flat_holdings mid new flats i)) lent

numbered_flat : (counts : List ℕ) (parts : List ClusterPart) (c : ℕ) → numbered counts (map flat parts) c ≡ numbered counts parts c
numbered_flat counts [] c = refl
numbered_flat counts (p ∷ ps) c = ap (λ x. if p.lined.number == c then cluster_of p else x) (numbered_flat counts ps c)

present_flat : (parts : List ClusterPart) → present_of (map flat parts) ≡ present_of parts
present_flat [] = refl
present_flat (p ∷ ps) = refl

clusters_flat : (counts : List ℕ) (mid new : List ClusterPart) → map flat new ≡ map flat mid → clusters_of counts new ≡ clusters_of counts mid
unfolding clusters_by
clusters_flat counts mid new flats = same_listed (numbered counts new) (numbered counts mid) 0 (length counts) (λ c. sym (numbered_flat counts new c) ∙ ap (λ (ps : List ClusterPart). numbered counts ps c) flats ∙ numbered_flat counts mid c)

-- the parts stand for the same state,
pub joined_flat : (s : Scenario) (table : Table) (groups : List GroupPart) (mid new : List ClusterPart) → map flat new ≡ map flat mid → joined s table new groups ≡ joined s table mid groups
joined_flat s table groups mid new flats =
    clusters_joined s table groups mid new (clusters_of s.clusters mid) (threads_of mid) (sym (present_flat new) ∙ ap (λ (ps : List ClusterPart). present_of ps) flats ∙ present_flat mid) (clusters_flat s.clusters mid new flats) (flat_threads mid new flats)

-- lie, store and hold the same
pub layouts_flat : (mid new : List ClusterPart) → map flat new ≡ map flat mid → layouts new ≡ layouts mid
layouts_flat mid new flats = flat_kept layout (λ p. refl) mid new flats

pub stored_flat : (mid new : List ClusterPart) → map flat new ≡ map flat mid → stored new ≡ stored mid
stored_flat mid new flats = flat_kept stored_in (λ p. refl) mid new flats

-- ---- priorities that parts have

prio_found : (parts : List ClusterPart) (at t c : ℕ) → number_in parts c ≡ Some at → prio_lent parts t c ≡ least_source (found (part_at parts at).threads.shares t c)
prio_found [] at t c h = let no : ⊥ = cc in absurd no
prio_found (p ∷ ps) zero t c h = let e = found_here (p.lined.number == c) (number_in ps c) h in rw e refl
prio_found (p ∷ ps) (suc at) t c h =
    let later = found_later (p.lined.number == c) (number_in ps c) at h in
    rw later.here_not (prio_found ps at t c later.there)

-- The priority of a thread in a cluster whose part is lent, as the parts have it, is that of the state that they stand for.
pub prio_is : (s : Scenario) (table : Table) (groups : List GroupPart) (parts : List ClusterPart) (at t c : ℕ) → AreHeld (holdings parts) (semaphores_of groups) → AreLent (bears parts) (holder (holdings parts)) parts → number_in parts c ≡ Some at → IsOne t → prio_lent parts t c ≡ prio (joined s table parts groups) t c
prio_is s table groups parts at t c held lent there one =
    let number = number_is parts at c there in
    prio_found parts at t c there
    ∙ ap (λ d. least_source (found (part_at parts at).threads.shares t d)) (sym number)
    ∙ priorities_are s table groups parts held lent at t (number_within parts at c there) one
    ∙ ap (prio (joined s table parts groups) t) number

-- and so is that in its home
pub home_prio_is : (s : Scenario) (table : Table) (groups : List GroupPart) (parts : List ClusterPart) (at t : ℕ) → AreHeld (holdings parts) (semaphores_of groups) → AreLent (bears parts) (holder (holdings parts)) parts → number_in parts (thread_lent parts t).home ≡ Some at → IsOne t → home_prio_lent parts t ≡ home_prio (joined s table parts groups) t
unfolding home_prio
home_prio_is s table groups parts at t held lent there one = ap or_least_urgent (prio_is s table groups parts at t (thread_lent parts t).home held lent there one)
