-- Whom processors help, as lent parts say it: it is what their state says, and it is noted so.
use Rattle.std.proofs.Common.{◌≡◌, ℕ, zero, suc, ◌+◌, ◌-◌, ◌<◌, ◌≤◌, List, [], ◌∷◌, Bool, true, false, nat_lt, ⊎_elim, Option, Some, None, length, map, get_or, arith, refl, sym, ap, ◌∙◌}
use Rattle.std.specs.Bool.{if◌then◌else◌}
use Rattle.std.proofs.lemmas.Bool.{false≢true, cases_lt}
use Rattle.std.proofs.lemmas.Bool.Decides.{nat_tests}
use Rattle.std.proofs.lemmas.List.{get_or_past, length-map}
use Rattle.rk_model.specs.declared.scenario.Scenario.{Scenario}
use Rattle.rk_model.specs.declared.state.Thread.{Thread}
use Rattle.rk_model.specs.declared.state.Wait.{Wait}
use Rattle.rk_model.specs.declared.state.Wait.TheVariants.{ForTime, ForEvents, AtBarrier, ForPeriod, ForSemaphore}
use Rattle.rk_model.specs.Lists.{nth}
use Rattle.rk_model.specs.Names.{Table}
use Rattle.rk_model.specs.State.{SemaphoreState, no_semaphore, no_thread}
use Rattle.rk_model.specs.Scheduling.Chains.{owner_awaited, waits_on}
use Rattle.rk_model.specs.Scheduling.Helping.{Scene, offer_of, helped_by, helped_in, scene, helped, could_run}
use Rattle.rk_model.specs.Scheduling.Priorities.{is_spinning, is_eligible}
use Rattle.rk_model.specs.Scheduling.Running.{view_of, running}
use Rattle.rk_model.specs.Scheduling.Seats.{cpu_at}
use Rattle.rk_model.proofs.HelpingLemmas.{helped_says, offer_says}
use Rattle.rk_mrsp.specs.declared.chains.Link.{Link}
use Rattle.rk_mrsp.specs.Scenes.{no_link, link_of, cpu_in, scene_in, hosts_of}
use Rattle.rk_mrsp.proofs.ScanLemmas.{hosts_say}
use Rattle.rk_parts.specs.declared.holdings.Holding.{Holding}
use Rattle.rk_parts.specs.declared.parts.ClusterPart.{ClusterPart}
use Rattle.rk_groups.specs.declared.group.GroupPart.{GroupPart}
use Rattle.rk_groups.specs.GroupObjects.{semaphores_of}
use Rattle.rk_parts.specs.HeldChains.{holder_awaited, owner_of, waits_on_holder}
use Rattle.rk_parts.specs.Holdings.{AreHeld, held_by, holding_of, holdings}
use Rattle.rk_parts.specs.Hosted.{could_run as could_run_by, link_lent, scene_lent, hosted_in, AreHosted, ShowRunning, spins_at, spins_below, has_spinner}
use Rattle.rk_parts.specs.Joined.{joined, threads_of, thread_lent}
use Rattle.rk_parts.specs.Lent.{AreLaid, layouts, Stored, stored}
use Rattle.rk_parts.specs.Noted.{bare, part_at}
use Rattle.rk_parts.specs.Seats.{is_seat, seat_in}
use Rattle.rk_parts.specs.Whole.{at_tick}
use Rattle.rk_parts.proofs.LentSeatLemmas.{seat_joined}
use Rattle.rk_parts.proofs.MappedPartLemmas.{mapped_kept, LeavesThreads, threads_mapped}
use Rattle.rk_parts.proofs.PutLemmas.{length_threads}
use Rattle.rk_model.proofs.BooleanLemmas.{or_front, or_back}

-- ---- the scene of parts is that of their state

-- the owner of a semaphore that is held as it says is its own
pub owner_held : (sem : SemaphoreState) → owner_of (holding_of sem) ≡ sem.owner
owner_held sem = by sem.owner where
  by : (owner : Option ℕ) → owner_of (held_by sem owner) ≡ owner
  by None = refl
  by (Some t) = refl

-- where each semaphore is held by its owner, threads wait on holders as they wait on owners
pub steps_held : (s : Scenario) (table : Table) (groups : List GroupPart) (parts : List ClusterPart) → AreHeld (holdings parts) (semaphores_of groups) → waits_on_holder parts ≡ waits_on (joined s table parts groups)
steps_held s table groups parts held = λ n t. by (thread_lent parts t).wait n where
  by : (wait : Option Wait) → holder_awaited (holdings parts) wait ≡ owner_awaited (semaphores_of groups) wait
  by None = refl
  by (Some ForTime) = refl
  by (Some (ForEvents set all)) = refl
  by (Some (AtBarrier i)) = refl
  by (Some (ForPeriod i)) = refl
  by (Some (ForSemaphore i spins)) = ap owner_of (held i) ∙ owner_held (nth no_semaphore (semaphores_of groups) i)

ready_joined : (s : Scenario) (table : Table) (groups : List GroupPart) (parts : List ClusterPart) (t : ℕ) → could_run_by (thread_lent parts t) ≡ could_run (joined s table parts groups) t
unfolding could_run is_eligible
ready_joined s table groups parts t = refl

pub scene_joined : (s : Scenario) (table : Table) (groups : List GroupPart) (parts : List ClusterPart) → AreLaid s.clusters (layouts parts) → AreHeld (holdings parts) (semaphores_of groups) → scene_lent parts ≡ scene (joined s table parts groups)
scene_joined s table groups parts laid held =
    let k = joined s table parts groups in
    let on : waits_on_holder parts ≡ waits_on k = steps_held s table groups parts held in
    let ready : (λ t. could_run_by (thread_lent parts t)) ≡ could_run k = λ i t. ready_joined s table groups parts t i in
    let cpu : seat_in parts ≡ cpu_at k = λ i p. seat_joined s table groups parts p laid i in
    λ i. record { threads = length (threads_of parts); on = on i; spins = λ t. is_spinning (thread_lent parts t).wait; ready = ready i; cpu = cpu i }

-- What is noted of a processor is whom it helps.
pub hosted_helped : (s : Scenario) (table : Table) (groups : List GroupPart) (parts : List ClusterPart) (p : ℕ) → ShowRunning s groups parts → hosted_in parts p ≡ helped (joined s table parts groups) p
hosted_helped s table groups parts p show = show.hosted p ∙ ap (λ (x : Scene). helped_in x p) (scene_joined s table groups parts show.laid show.held)

-- So the parts say what a processor does.
pub viewed : (s : Scenario) (table : Table) (groups : List GroupPart) (parts : List ClusterPart) (p : ℕ) → ShowRunning s groups parts →
    view_of (joined s table parts groups) (seat_in parts p) (hosted_in parts p) ≡ running (joined s table parts groups) p
viewed s table groups parts p show =
    let k = joined s table parts groups in
    ap (λ o. view_of k o (hosted_in parts p)) (seat_joined s table groups parts p show.laid) ∙ ap (view_of k (cpu_at k p)) (hosted_helped s table groups parts p show)

-- ---- parts that have the same threads, holdings and processors

-- the scene of such parts
abbrev scene_by : List Thread → List (List (Option Holding)) → (ℕ → Option ℕ) → Scene
scene_by threads held seats = record {
  threads = length threads;
  on = λ t. holder_awaited held (nth no_thread threads t).wait;
  spins = λ t. is_spinning (nth no_thread threads t).wait;
  ready = λ t. could_run_by (nth no_thread threads t);
  cpu = seats;
}

pub scene_same : (old new : List ClusterPart) → threads_of new ≡ threads_of old → holdings new ≡ holdings old → seat_in new ≡ seat_in old → scene_lent new ≡ scene_lent old
scene_same old new threads held seats =
    ap (λ ts. scene_by ts (holdings new) (seat_in new)) threads ∙ ap (λ hs. scene_by (threads_of old) hs (seat_in new)) held ∙ ap (scene_by (threads_of old) (holdings old)) seats

-- what parts that store the same have on their processors, and note of them
seat_stored : (old new : List ClusterPart) (p : ℕ) → stored new ≡ stored old → seat_in new p ≡ seat_in old p
seat_stored old new p same = by new ∙ ap (stored_seat p) same ∙ sym (by old) where
  stored_seat : ℕ → List Stored → Option ℕ
  stored_seat p [] = None
  stored_seat p (x ∷ xs) = if is_seat x.lined.first (length x.lined.cpus) p then get_or x.lined.cpus (p - x.lined.first) None else stored_seat p xs

  by : (parts : List ClusterPart) → seat_in parts p ≡ stored_seat p (stored parts)
  by [] = refl
  by (x ∷ xs) = ap (λ o. if is_seat x.lined.first (length x.lined.cpus) p then get_or x.lined.cpus (p - x.lined.first) None else o) (by xs)

hosted_stored : (old new : List ClusterPart) (p : ℕ) → stored new ≡ stored old → hosted_in new p ≡ hosted_in old p
hosted_stored old new p same = by new ∙ ap (stored_host p) same ∙ sym (by old) where
  stored_host : ℕ → List Stored → Option ℕ
  stored_host p [] = None
  stored_host p (x ∷ xs) = if is_seat x.lined.first (length x.lined.cpus) p then cpu_in x.hosting p else stored_host p xs

  by : (parts : List ClusterPart) → hosted_in parts p ≡ stored_host p (stored parts)
  by [] = refl
  by (x ∷ xs) = ap (λ o. if is_seat x.lined.first (length x.lined.cpus) p then cpu_in x.hosting p else o) (by xs)

-- It is noted still whom processors help where nothing of it changed.
pub hosted_kept : (old new : List ClusterPart) → scene_lent new ≡ scene_lent old → stored new ≡ stored old → AreHosted old → AreHosted new
hosted_kept old new same store hosted = λ p. hosted_stored old new p store ∙ hosted p ∙ ap (λ (x : Scene). helped_in x p) (sym same)

pub scene_stored : (old new : List ClusterPart) → threads_of new ≡ threads_of old → holdings new ≡ holdings old → stored new ≡ stored old → scene_lent new ≡ scene_lent old
scene_stored old new threads held store = let seats : seat_in new ≡ seat_in old = λ i p. seat_stored old new p store i in scene_same old new threads held seats

-- ---- parts but for their rooms

leaves : LeavesThreads bare
leaves = record { threads = λ p. refl; lined = λ p. refl; timers = λ p. refl }

seat_bare : (parts : List ClusterPart) (p : ℕ) → seat_in (map bare parts) p ≡ seat_in parts p
seat_bare [] p = refl
seat_bare (x ∷ xs) p = ap (λ o. if is_seat x.lined.first (length x.lined.cpus) p then get_or x.lined.cpus (p - x.lined.first) None else o) (seat_bare xs p)

pub seats_bare : (old new : List ClusterPart) → map bare new ≡ map bare old → seat_in new ≡ seat_in old
seats_bare old new same = λ i p. (sym (seat_bare new p) ∙ ap (λ ps. seat_in ps p) same ∙ seat_bare old p) i

pub scene_bare : (old new : List ClusterPart) → map bare new ≡ map bare old → scene_lent new ≡ scene_lent old
scene_bare old new same =
    scene_same old new
    (sym (threads_mapped bare leaves new) ∙ ap threads_of same ∙ threads_mapped bare leaves old)
    (sym (mapped_kept (λ (p : ClusterPart). p.holdings.owners) bare (λ p. refl) new) ∙ ap holdings same ∙ mapped_kept (λ (p : ClusterPart). p.holdings.owners) bare (λ p. refl) old)
    (seats_bare old new same)

pub length_bare : (old new : List ClusterPart) → map bare new ≡ map bare old → length new ≡ length old
length_bare old new same = sym (length-map new bare) ∙ ap (λ (ps : List ClusterPart). length ps) same ∙ length-map old bare

-- ---- how it is noted

-- a processor without a thread helps none
unhelped : (x : Scene) (p : ℕ) → x.cpu p ≡ None → helped_in x p ≡ None
unfolding helped_in
unhelped x p none = ap (λ c. helped_by x p (offer_of x c)) none

-- one of the first processors that has a thread which spins
pub spins_next : (x : Scene) (p : ℕ) → spins_below x p ≡ false → spins_at x (x.cpu p) ≡ false → spins_below x (p + 1) ≡ false
spins_next x p none h = let e : p + 1 ≡ suc p = omega arith in rw (e, h) none

pub spins_found : (x : Scene) (p n : ℕ) → p < n → spins_at x (x.cpu p) ≡ true → spins_below x n ≡ true
spins_found x p zero low h = absurd (omega (arith, low))
spins_found x p (suc n) low h = ⊎_elim (λ less. or_back (spins_at x (x.cpu n)) (spins_found x p n less h)) (λ more. let same : p ≡ n = omega (arith, low, more) in or_front (spins_below x n) (ap (λ q. spins_at x (x.cpu q)) (sym same) ∙ h)) (cases_lt p n)

pub spinner_at : (x : Scene) (p : ℕ) → p < 8 → spins_at x (x.cpu p) ≡ true → true ≡ has_spinner x
unfolding has_spinner
spinner_at x p low h = sym (spins_found x p 8 low h)

pub no_spinner : (x : Scene) (p : ℕ) → 8 ≤ p → p ≤ 8 → spins_below x p ≡ false → false ≡ has_spinner x
unfolding has_spinner
no_spinner x p low high h = let e : p ≡ 8 = omega (arith, low, high) in sym (ap (spins_below x) (sym e) ∙ h)

-- where none spins, none is helped
spins_not : (x : Scene) (p n : ℕ) → p < n → spins_below x n ≡ false → spins_at x (x.cpu p) ≡ false
spins_not x p n low none = by (spins_at x (x.cpu p)) refl where
  by : (b : Bool) → spins_at x (x.cpu p) ≡ b → spins_at x (x.cpu p) ≡ false
  by true h = absurd (false≢true (sym none ∙ spins_found x p n low h))
  by false h = h

none_helped : (x : Scene) (p : ℕ) → has_spinner x ≡ false → p < 8 → helped_in x p ≡ None
unfolding has_spinner
none_helped x p none low = by (helped_in x p) refl where
  offers : (t : ℕ) (o : Option ℕ) → x.cpu p ≡ o → offer_of x o ≡ Some t → ⊥
  offers t None is h = let no : ⊥ = cc in no
  offers t (Some u) is h = false≢true (sym (spins_not x p 8 low none) ∙ ap (spins_at x) is ∙ (offer_says x u t h).spins)

  by : (o : Option ℕ) → helped_in x p ≡ o → helped_in x p ≡ None
  by None h = h
  by (Some t) h = absurd (offers t (x.cpu p) refl (helped_says x p t h).0)

-- what is noted of a processor, where each part has the same to say of it
noted_by : (parts : List ClusterPart) (p : ℕ) (o : Option ℕ) → ((at : ℕ) → at < length parts → cpu_in (part_at parts at).hosting p ≡ o) → (seat_in parts p ≡ None → o ≡ None) → hosted_in parts p ≡ o
noted_by [] p o each none = sym (none refl)
noted_by (x ∷ xs) p o each none = by (is_seat x.lined.first (length x.lined.cpus) p) refl (noted_by xs p o (λ at h. each (suc at) (omega (arith, h)))) none where
  by : (b : Bool) → is_seat x.lined.first (length x.lined.cpus) p ≡ b → ((seat_in xs p ≡ None → o ≡ None) → hosted_in xs p ≡ o) →
      ((if b then get_or x.lined.cpus (p - x.lined.first) None else seat_in xs p) ≡ None → o ≡ None) → (if b then cpu_in x.hosting p else hosted_in xs p) ≡ o
  by true is rest none = each 0 (omega arith)
  by false is rest none = rest none

-- It is noted of each processor whom it helps, where each part has noted it, and where no part has noted any and none spins.
pub hosted_noted : (parts : List ClusterPart) (x : Scene) → x ≡ scene_lent parts → ((at p : ℕ) → at < length parts → cpu_in (part_at parts at).hosting p ≡ helped_in x p) → AreHosted parts
hosted_noted parts x same each p =
    noted_by parts p (helped_in x p) (λ at h. each at p h) (λ none. unhelped x p (ap (λ (y : Scene). y.cpu p) same ∙ none)) ∙ ap (λ (y : Scene). helped_in y p) same

pub hosted_none : (parts : List ClusterPart) (x : Scene) → x ≡ scene_lent parts → has_spinner x ≡ false → ((p : ℕ) → 8 ≤ p → x.cpu p ≡ None) → ((at : ℕ) → at < length parts → (part_at parts at).hosting ≡ []) → AreHosted parts
hosted_none parts x same none few each = hosted_noted parts x same (λ at p h. ap (λ seats. cpu_in seats p) (each at h) ∙ sym (by p)) where
  by : (p : ℕ) → helped_in x p ≡ None
  by p = ⊎_elim (λ low. none_helped x p none low) (λ high. unhelped x p (few p high)) (cases_lt p 8)

-- Links and processors that are noted say what the parts say.
pub record AreRead (old : List ClusterPart) (part : ClusterPart) : Type 0 where
  pub size : length part.chains ≡ 64
  pub links : (t : ℕ) → t ≤ 64 → link_of part.chains t ≡ link_lent old t
  pub seats : (p : ℕ) → cpu_in part.seats p ≡ (if nat_lt p 8 then seat_in old p else None)
  pub few : (p : ℕ) → 8 ≤ p → seat_in old p ≡ None
  pub hosting : part.hosting ≡ hosts_of (scene_in part.chains part.seats) part.seats

scene_read : (old : List ClusterPart) (part : ClusterPart) → AreRead old part → scene_in part.chains part.seats ≡ scene_lent old
scene_read old part is =
    let links : link_of part.chains ≡ link_lent old = λ i t. link t i in
    let cpus : cpu_in part.seats ≡ seat_in old = λ i p. cpu p i in
    let threads : length part.chains ≡ length (threads_of old) = is.size ∙ sym (length_threads old) in
    λ i. record { threads = threads i; on = λ t. (links i t).on; spins = λ t. (links i t).spins; ready = λ t. (links i t).ready; cpu = cpus i }
  where
    past : (links : List Link) (t : ℕ) → length links ≡ 64 → 65 ≤ t → link_of links t ≡ no_link
    past links zero size high = absurd (omega (arith, high))
    past links (suc t) size high = get_or_past links t no_link (omega (arith, size, high))

    past_lent : (t : ℕ) → 65 ≤ t → thread_lent old t ≡ no_thread
    past_lent zero high = absurd (omega (arith, high))
    past_lent (suc t) high = get_or_past (threads_of old) t no_thread (omega (arith, length_threads old, high))

    no_link_there : (t : ℕ) → 65 ≤ t → no_link ≡ link_lent old t
    no_link_there t high =
        ap (λ (x : Thread). (let l : Link = record { on = holder_awaited (holdings old) x.wait; spins = is_spinning x.wait; ready = could_run_by x } in l)) (sym (past_lent t high))

    link : (t : ℕ) → link_of part.chains t ≡ link_lent old t
    link t = ⊎_elim (λ low. is.links t (omega (arith, low))) (λ high. past part.chains t is.size high ∙ no_link_there t high) (cases_lt t 65)

    cpu : (p : ℕ) → cpu_in part.seats p ≡ seat_in old p
    cpu p = is.seats p ∙ by (nat_lt p 8) refl where
      by : (b : Bool) → nat_lt p 8 ≡ b → (if b then seat_in old p else None) ≡ seat_in old p
      by true e = refl
      by false e = sym (is.few p (grind (arith, nat_tests, e)))

pub host_read : (old : List ClusterPart) (part : ClusterPart) (p : ℕ) → AreRead old part → cpu_in part.hosting p ≡ helped_in (scene_lent old) p
host_read old part p is =
    let x = scene_in part.chains part.seats in
    ap (λ hosts. cpu_in hosts p) is.hosting ∙ hosts_say x part.seats p refl ∙ ap (λ (y : Scene). helped_in y p) (scene_read old part is)

-- ---- a tick

tick_leaves : (n : ℕ) → LeavesThreads (at_tick n)
tick_leaves n = record { threads = λ p. refl; lined = λ p. refl; timers = λ p. refl }

seat_tick : (n : ℕ) (parts : List ClusterPart) (p : ℕ) → seat_in (map (at_tick n) parts) p ≡ seat_in parts p
seat_tick n [] p = refl
seat_tick n (x ∷ xs) p = ap (λ o. if is_seat x.lined.first (length x.lined.cpus) p then get_or x.lined.cpus (p - x.lined.first) None else o) (seat_tick n xs p)

host_tick : (n : ℕ) (parts : List ClusterPart) (p : ℕ) → hosted_in (map (at_tick n) parts) p ≡ hosted_in parts p
host_tick n [] p = refl
host_tick n (x ∷ xs) p = ap (λ o. if is_seat x.lined.first (length x.lined.cpus) p then cpu_in x.hosting p else o) (host_tick n xs p)

-- It is noted still whom processors help once a tick has passed.
pub hosted_tick : (n : ℕ) (parts : List ClusterPart) → AreHosted parts → AreHosted (map (at_tick n) parts)
hosted_tick n parts hosted = λ p. host_tick n parts p ∙ hosted p ∙ ap (λ (x : Scene). helped_in x p) (sym same) where
  seats : seat_in (map (at_tick n) parts) ≡ seat_in parts
  seats = λ i p. seat_tick n parts p i

  same : scene_lent (map (at_tick n) parts) ≡ scene_lent parts
  same = scene_same parts (map (at_tick n) parts) (threads_mapped (at_tick n) (tick_leaves n) parts) (mapped_kept (λ (p : ClusterPart). p.holdings.owners) (at_tick n) (λ p. refl) parts) seats
