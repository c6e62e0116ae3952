-- All parts after a gentle change, and after settling.
use Rattle.std.proofs.Common.{◌≡◌, ℕ, ◌<◌, ◌≤◌, List, Bool, true, false, Option, Some, None, length, map, replicate, refl, sym, ap, ◌∙◌, subst, arith, [], ◌∷◌, ◌==◌, ◌&&◌, cond, ◌≢◌}
use Rattle.std.proofs.lemmas.Bool.{false≢true}
use Rattle.std.proofs.lemmas.List.{length-map}
use Rattle.std.specs.Prelude.{IfSome}
use Rattle.rk_model.specs.declared.scenario.Scenario.{Scenario}
use Rattle.rk_model.specs.declared.state.Thread.{Thread}
use Rattle.rk_model.specs.Directives.Objects.{has_begun}
use Rattle.rk_model.specs.Names.{no_objects}
use Rattle.rk_model.specs.State.{Plain, no_thread}
use Rattle.rk_model.specs.Scheduling.Settling.{settle}
use Rattle.rk_parts.specs.declared.parts.ClusterPart.{ClusterPart}
use Rattle.rk_parts.specs.declared.parts.AllParts.{AllParts}
use Rattle.rk_parts.specs.declared.processors.Calling.{Calling}
use Rattle.rk_parts.specs.Contributing.{flat, AreHomes, Lives}
use Rattle.rk_parts.specs.Contributions.{bears, bore}
use Rattle.rk_parts.specs.Holdings.{AreHeld, holder, holdings, noted_holdings}
use Rattle.rk_groups.specs.GroupObjects.{semaphores_of}
use Rattle.rk_parts.specs.Joined.{held, no_scenario, present_of, plain_of, thread_lent}
use Rattle.rk_parts.specs.Lent.{found_in, number_in, accounts, AreLaid, layouts, Stored, stored_in, stored, Frame, frame}
use Rattle.rk_parts.specs.Noted.{settled_part, bare, AreLent, AreNoted}
use Rattle.rk_parts.specs.Whole.{AreWhole, ticks_of}
use Rattle.rk_groups.specs.Groups.{group_frames}
use Rattle.rk_model.specs.Scheduling.Running.{caller}
use Rattle.rk_model.specs.Scheduling.Seats.{cpu_count}
use Rattle.rk_model.specs.Text.Scenarios.{cpus_in}
use Rattle.rk_parts.specs.Hosted.{AreHosted, ShowRunning}
use Rattle.rk_parts.specs.Seats.{seat_in}
use Rattle.rk_parts.proofs.AccountLemmas.{homes_noted, joined_flat, layouts_flat, lent_flat, lent_noted, lives_noted, stored_flat, prio_is}
use Rattle.rk_parts.proofs.ContributionLemmas.{flat_holdings}
use Rattle.rk_parts.proofs.HeldLemmas.{found_lives, held_found, held_nowhere}
use Rattle.rk_parts.proofs.HoldingLemmas.{held_kept}
use Rattle.rk_parts.proofs.LayoutLemmas.{lie}
use Rattle.rk_parts.proofs.LentSeatLemmas.{cpu_count_joined, seats_end}
use Rattle.rk_parts.proofs.LentTimerLemmas.{number_found}
use Rattle.rk_parts.proofs.PutLemmas.{length_clusters}
use Rattle.rk_parts.proofs.SettledPartLemmas.{same_stored, thread_any}
use Rattle.rk_parts.proofs.WholeLemmas.{Keeps, lent_whole, ticks_framed, semaphores_framed, barriers_framed, partitions_framed, periods_framed, whole_settled, plain_settled, all_noted_settled}
use Rattle.rk_directives.specs.Does.{Untouched, untouched, HaveEachPriority, lent_both}
use Rattle.rk_directives.proofs.DirectiveLemmas.LentLemmas.{home_known}
use Rattle.rk_directives.proofs.KeptHoldingLemmas.{same_owners, still_held}
use Rattle.rk_kernel.specs.Ready.{IsSettled, IsReady}
use Rattle.rk_directives.specs.Sound.{IsSound, CanSettle}
use Rattle.rk_kernel.proofs.ReadyQueueLemmas.{sound_lines}
use Rattle.rk_kernel.proofs.SoundSettlingLemmas.{sound_settled}
use Rattle.std.proofs.lemmas.Bool.Decides.{nat_tests}
use Rattle.rk_parts.specs.Lending.{prio_lent}
use Rattle.rk_groups.proofs.FoundLemmas.{found_nowhere}
use Rattle.rk_model.specs.Scheduling.Chains.{lends_to, reaches}
use Rattle.rk_model.specs.Scheduling.Priorities.{contribution, is_behind, least_of, own, prio}
use Rattle.rk_kernel.proofs.BearingLemmas.{least_none, prio_least}

-- what is ready for a step has settled
pub as_settled : (all : AllParts) → IsReady all → IsSettled all
as_settled all ready = record { whole = ready.whole; sound = ready.sound; noted = ready.noted }

-- and shows what processors do
pub shows : (all : AllParts) → IsReady all → ShowRunning all.scenario all.groups all.clusters
shows all ready = record { laid = ready.whole.laid; held = ready.whole.held; hosted = ready.hosted }

few_settled : (all : AllParts) → IsSettled all → length all.scenario.clusters ≤ 4
few_settled all is = let size = length_clusters all.scenario.clusters all.clusters in omega (arith, is.sound.few_clusters, size)

-- The parts note whom their processors help, where there are no more than eight of them.
abbrev pub HostsAll : List ClusterPart → Type 0
HostsAll parts = ((p : ℕ) → 8 ≤ p → seat_in parts p ≡ None) → AreHosted parts

-- there are at most four clusters
pub few_clusters : (all : AllParts) → IsReady all → length all.scenario.clusters ≤ 4
few_clusters all ready = let size = length_clusters all.scenario.clusters all.clusters in omega (arith, ready.sound.few_clusters, size)

-- as many as the scenario has
pub count_clusters : (all : AllParts) → length (plain_of all).clusters ≡ length all.scenario.clusters
count_clusters all = length_clusters all.scenario.clusters all.clusters

-- the processors of the state are those of the scenario, of which there are at most eight
pub count_processors : (all : AllParts) → IsReady all → cpu_count (plain_of all) ≡ cpus_in all.scenario.clusters
count_processors all ready = cpu_count_joined all.scenario all.table.names all.groups all.clusters ready.whole.laid

pub few_processors : (all : AllParts) → IsReady all → cpus_in all.scenario.clusters ≤ 8
few_processors all ready = omega (arith, ready.sound.few_cpus, count_processors all ready)

-- the lowest-numbered processor that has a directive is one of the first eight
pub least_within : (all : AllParts) (o : Option Calling) → IsReady all → IfSome o (λ calling. (caller (plain_of all) calling.cpu ≡ Some calling.thread) × (calling.cpu < cpus_in all.scenario.clusters)) → IfSome o (λ calling. (caller (plain_of all) calling.cpu ≡ Some calling.thread) × (calling.cpu < 8))
least_within all None ready found = tt
least_within all (Some calling) ready found = (found.0, omega (arith, found.1, few_processors all ready))

-- and the part of each is found by its number
pub part_found : (all : AllParts) (c : ℕ) → IsReady all → c < length all.scenario.clusters → number_in all.clusters c ≡ Some c
part_found all c ready known = lent_whole all c ready.whole (few_clusters all ready) known

-- All parts are whole still where they keep their frame, their holdings, their semaphores and the present tick, and what no directive touches is as before.
pub whole_kept : (old all : AllParts) → AreWhole old → present_of all.clusters ≡ present_of old.clusters → frame all.clusters ≡ frame old.clusters → holdings all.clusters ≡ holdings old.clusters → semaphores_of all.groups ≡ semaphores_of old.groups → untouched all ≡ untouched old → AreWhole all
whole_kept old all whole present kept held semaphores rest =
    let lie : layouts all.clusters ≡ layouts old.clusters = ap (λ (f : Frame). f.layouts) kept in
    let store : stored all.clusters ≡ stored old.clusters = ap (λ (f : Frame). f.stored) kept in
    let same : all.scenario ≡ old.scenario = ap (λ (u : Untouched). u.scenario) rest in
    let framed : group_frames all.groups ≡ group_frames old.groups = ap (λ (u : Untouched). u.groups) rest in
    record {
      four = sym (length-map all.clusters stored_in) ∙ ap (λ (ss : List Stored). length ss) store ∙ length-map old.clusters stored_in ∙ whole.four;
      numbers = λ c low. ap (λ (x : Stored). x.lined.number) (same_stored old.clusters all.clusters c store) ∙ whole.numbers c low;
      laid = subst (λ (s : Scenario). AreLaid s.clusters (layouts all.clusters)) (sym same) (subst (AreLaid old.scenario.clusters) (sym lie) whole.laid);
      groups = barriers_framed old.groups all.groups framed whole.groups;
      semaphores = semaphores_framed old.groups all.groups framed whole.semaphores;
      partitions = partitions_framed old.groups all.groups framed whole.partitions;
      periods = periods_framed old.groups all.groups framed whole.periods;
      held = still_held old.clusters all.clusters old.groups all.groups held (same_owners old.groups all.groups semaphores) whole.held;
      time = record {
        clusters = ap (λ (ss : List Stored). ticks_of ss) store ∙ whole.time.clusters ∙ ap (replicate 4) (sym present);
        groups = ticks_framed old.groups all.groups framed ∙ whole.time.groups ∙ ap (replicate 4) (sym present);
        table = ap (λ (u : Untouched). u.time) rest ∙ whole.time.table ∙ sym present;
      };
    }

-- All parts after a change of the state that can settle: they are laid as parts of a state, each semaphore is held by its owner, and what they store, their accounts of contributions and what no directive touches is as before.
pub record IsChanged (before mid : AllParts) (next : Plain) : Type 0 where
  pub settles : CanSettle (plain_of before) next
  pub state : plain_of mid ≡ next
  pub laid : AreLaid before.scenario.clusters (layouts mid.clusters)
  pub kept : stored mid.clusters ≡ stored before.clusters
  pub accounts : accounts mid.clusters ≡ accounts before.clusters
  pub held : AreHeld (holdings mid.clusters) (semaphores_of mid.groups)
  pub rest : untouched mid ≡ untouched before

-- ---- contributions to priorities

-- the part of a thread's home is among them
home_lent : (all : AllParts) (t : ℕ) → AreWhole all → length all.scenario.clusters ≤ 4 → number_in all.clusters (thread_lent all.clusters t).home ≡ Some (thread_lent all.clusters t).home
home_lent all t whole few = number_found counts all.clusters home home (lie counts all.clusters whole.laid) (omega (arith, less, whole.four)) (whole.numbers home less) where
  counts : List ℕ
  counts = all.scenario.clusters

  home : ℕ
  home = (thread_lent all.clusters t).home

  any : thread_lent all.clusters t ≡ held all.clusters t
  any = thread_any counts all.clusters t (lie counts all.clusters whole.laid)

  nobody : (o : Option ℕ) → found_in all.clusters t ≡ o → has_begun (held all.clusters t).life ≡ false → held all.clusters t ≡ no_thread
  nobody None e dead = held_nowhere all.clusters t e
  nobody (Some at) e dead = absurd (false≢true (sym dead ∙ ap (λ (x : Thread). has_begun x.life) (held_found all.clusters at t e) ∙ found_lives all.clusters at t e))

  below : (b : Bool) → has_begun (thread_lent all.clusters t).life ≡ b → home < 4
  below true alive = let known = home_known counts all.clusters t whole.laid alive in omega (arith, known, few)
  below false dead =
      let none = any ∙ nobody (found_in all.clusters t) refl (ap (λ (x : Thread). has_begun x.life) (sym any) ∙ dead) in
      let zero_home : home ≡ 0 = ap (λ (x : Thread). x.home) none in
      omega (arith, zero_home)

  less : home < 4
  less = below (has_begun (thread_lent all.clusters t).life) refl

-- where the part of a cluster isn't lent, the parts have no priority there,
prio_nowhere : (parts : List ClusterPart) (t c : ℕ) → number_in parts c ≡ None → prio_lent parts t c ≡ None
prio_nowhere [] t c none = refl
prio_nowhere (p ∷ ps) t c none =
    let e = found_nowhere (p.lined.number == c) (number_in ps c) none in
    rw e.here_not (prio_nowhere ps t c e.there_not)

-- and there is none, since no thread's home it is
nothing_lent : (all : AllParts) (t c u : ℕ) → AreWhole all → length all.scenario.clusters ≤ 4 → number_in all.clusters c ≡ None → contribution (lent_both all.clusters all.groups) t c u ≡ None
unfolding contribution is_behind
nothing_lent all t c u whole few none =
    ap (λ b. cond (has_begun (thread_lent all.clusters u).life && (b && reaches (lends_to k) (length k.threads) u t)) (Some (own k u)) None) away ∙ by (has_begun (thread_lent all.clusters u).life) where
      k : Plain
      k = lent_both all.clusters all.groups

      away : ((thread_lent all.clusters u).home == c) ≡ false
      away = let other : (thread_lent all.clusters u).home ≢ c = λ same. (let no : ⊥ = cc (home_lent all u whole few, ap (number_in all.clusters) same, none) in no) in grind (arith, nat_tests, other)

      by : (b : Bool) → cond (b && (false && reaches (lends_to k) (length k.threads) u t)) (Some (own k u)) None ≡ None
      by true = refl
      by false = refl

-- the priorities that the parts have are those of the state that they stand for, in each cluster
pub have_each_priority : (all : AllParts) → AreWhole all → AreNoted (length all.scenario.clusters) all.clusters → length all.scenario.clusters ≤ 4 → HaveEachPriority all.clusters all.groups
have_each_priority all whole noted few t c one = by (number_in all.clusters c) refl where
  by : (o : Option ℕ) → number_in all.clusters c ≡ o → prio_lent all.clusters t c ≡ prio (lent_both all.clusters all.groups) t c
  by None e = prio_nowhere all.clusters t c e ∙ sym (prio_least (lent_both all.clusters all.groups) t c ∙ least_none (contribution (lent_both all.clusters all.groups) t c) 1 (length (lent_both all.clusters all.groups).threads) (λ u. nothing_lent all t c u whole few e))
  by (Some at) e = prio_is no_scenario no_objects all.groups all.clusters at t c whole.held noted.shares e one

-- What contributions are made anew from, after a change that keeps the accounts of them.
pub record CanContribute (mid : List ClusterPart) : Type 0 where
  pub lent : AreLent (bore mid) (holder (noted_holdings mid)) mid
  pub lives : Lives mid
  pub homes : AreHomes mid

pub can_contribute : (before : AllParts) (mid : List ClusterPart) → AreWhole before → AreNoted (length before.scenario.clusters) before.clusters → AreLaid before.scenario.clusters (layouts mid) → stored mid ≡ stored before.clusters → accounts mid ≡ accounts before.clusters → CanContribute mid
can_contribute before mid whole noted laid kept same =
    let counts = before.scenario.clusters in
    let lies = lie counts before.clusters whole.laid in
    record {
      lent = lent_noted (length counts) before.clusters mid noted kept same;
      lives = lives_noted (length counts) counts before.clusters mid lies noted kept same;
      homes = homes_noted (length counts) counts before.clusters mid lies (lie counts mid laid) noted kept same;
    }

-- the same of parts that keep the frame of such parts
pub framed_contributes : (before : AllParts) (from mid : List ClusterPart) → IsReady before → AreLaid before.scenario.clusters (layouts from) → stored from ≡ stored before.clusters → accounts from ≡ accounts before.clusters → frame mid ≡ frame from → CanContribute mid
framed_contributes before from mid ready laid kept same framed =
    can_contribute before mid ready.whole ready.noted
    (subst (AreLaid before.scenario.clusters) (sym (ap (λ (f : Frame). f.layouts) framed)) laid)
    (ap (λ (f : Frame). f.stored) framed ∙ kept)
    (ap (λ (f : Frame). f.accounts) framed ∙ same)

keeps : (before mid : AllParts) (made : List ClusterPart) (next : Plain) → IsChanged before mid next → map flat made ≡ map flat mid.clusters → AreLent (bears mid.clusters) (holder (holdings mid.clusters)) made → Keeps before (record mid { clusters = made })
keeps before mid made next is flats lent = record {
  shares = lent_flat mid.clusters made flats lent;
  laid = subst (AreLaid before.scenario.clusters) (sym (layouts_flat mid.clusters made flats)) is.laid;
  kept = stored_flat mid.clusters made flats ∙ is.kept;
  held = held_kept (holdings mid.clusters) (holdings made) (semaphores_of mid.groups) (semaphores_of mid.groups) (flat_holdings mid.clusters made flats) (λ i. refl) is.held;
  scenario = ap (λ (u : Untouched). u.scenario) is.rest;
  groups = ap (λ (u : Untouched). u.groups) is.rest;
  table = ap (λ (u : Untouched). u.time) is.rest;
}

-- All parts after settling, against the state after the change.
pub record AreSettled (before after : AllParts) (next : Plain) (last : List ℕ) : Type 0 where
  pub state : plain_of after ≡ settle (plain_of before) next last
  pub ready : IsReady after

-- Parts in which contributions were made anew, and that have settled then, stand for the settled state, and are ready for the next step where it is noted whom processors help.
pub settled : (before mid : AllParts) (made new : List ClusterPart) (next : Plain) (last : List ℕ) → IsSettled before → IsChanged before mid next → map flat made ≡ map flat mid.clusters → AreLent (bears mid.clusters) (holder (holdings mid.clusters)) made → map bare new ≡ map (settled_part last) made → HostsAll new → AreSettled before (record mid { clusters = new }) next last
settled before mid made new next last ready is flats lent done hosts =
    let k = plain_of before in
    let few = few_settled before ready in
    let lends : AllParts = record mid { clusters = made } in
    let keep = keeps before mid made next is flats lent in
    let lines = sound_lines k ready.sound in
    let state : plain_of (record mid { clusters = new }) ≡ settle k next last =
    plain_settled before lends new last ready.whole ready.noted lines few keep done ∙ ap (λ (n : Plain). settle k n last) (joined_flat mid.scenario mid.table.names mid.groups mid.clusters made flats ∙ is.state) in
    let whole = whole_settled before lends new last ready.whole keep done in
    let sound : IsSound (plain_of (record mid { clusters = new })) = subst IsSound (sym state) (sound_settled k next last ready.sound is.settles) in
    record {
      state = state;
      ready = record {
        whole = whole;
        sound = sound;
        noted = all_noted_settled before lends new last ready.whole ready.noted lines few keep done;
        hosted = hosts (λ p high. seats_end mid.scenario.clusters new p whole.laid (omega (arith, high, sound.few_cpus, cpu_count_joined mid.scenario mid.table.names mid.groups new whole.laid)));
      };
    }
