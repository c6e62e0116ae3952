-- All parts at opening: vacant, then with the tasks of the init lines, and settled.
use Rattle.std.proofs.Common.{◌≡◌, ℕ, ◌<◌, ◌≤◌, List, [], map, length, refl, sym, ap, ◌∙◌, subst, IsSome}
use Rattle.rk_model.specs.declared.scenario.Scenario.{Scenario}
use Rattle.rk_model.specs.Names.{Table, no_objects}
use Rattle.rk_model.specs.State.{Plain}
use Rattle.rk_model.specs.Scheduling.Settling.{settle}
use Rattle.rk_model.specs.Histories.{begun, places, vacant, begun_names, started, opening}
use Rattle.rk_model.specs.Limits.{IsWithinLimits}
use Rattle.rk_parts.specs.declared.parts.ClusterPart.{ClusterPart}
use Rattle.rk_groups.specs.declared.group.GroupPart.{GroupPart}
use Rattle.rk_parts.specs.declared.parts.AllParts.{AllParts}
use Rattle.rk_parts.specs.Contributing.{flat}
use Rattle.rk_parts.specs.Contributions.{bears}
use Rattle.rk_parts.specs.Holdings.{holder, holdings}
use Rattle.rk_parts.specs.Joined.{joined, plain_of}
use Rattle.rk_parts.specs.Lent.{number_in, accounts, AreLaid, layouts, stored}
use Rattle.rk_parts.specs.Noted.{AreLent, AreNoted, settled_part, bare}
use Rattle.rk_parts.specs.Whole.{AreWhole}
use Rattle.rk_parts.proofs.WholeLemmas.{lent_whole}
use Rattle.rk_kernel.specs.Ready.{IsSettled, IsReady}
use Rattle.rk_directives.specs.Sound.{IsSound, CanSettle}
use Rattle.rk_kernel.proofs.OpeningLemmas.{sound_vacant, started_settles}
use Rattle.rk_directives.proofs.KeptHoldingLemmas.{still_held}
use Rattle.rk_kernel.proofs.PartsSettledLemmas.{can_contribute, CanContribute, HostsAll, IsChanged, settled}

-- All parts of the state in which there is no task yet.
pub record StandVacant (s : Scenario) (all : AllParts) : Type 0 where
  pub vacant : plain_of all ≡ vacant s
  pub whole : AreWhole all
  pub noted : AreNoted (length s.clusters) all.clusters

same_scenario : (s : Scenario) (all : AllParts) → StandVacant s all → all.scenario ≡ s
same_scenario s all stand = ap (λ (k : Plain). k.scenario) stand.vacant

-- The part of each cluster is among them,
pub lent_vacant : (s : Scenario) (all : AllParts) (c : ℕ) → IsWithinLimits s → StandVacant s all → c < length s.clusters → IsSome (number_in all.clusters c)
lent_vacant s all c within stand known =
    let same = sym (same_scenario s all stand) in
    let few = subst (λ (t : Scenario). length t.clusters ≤ 4) same within.few_clusters in
    let less = subst (λ (t : Scenario). c < length t.clusters) same known in
    subst IsSome (sym (lent_whole all c stand.whole few less)) refl

-- and they are settled.
ready_vacant : (s : Scenario) (all : AllParts) → IsWithinLimits s → StandVacant s all → IsSettled all
ready_vacant s all within stand = record {
  whole = stand.whole;
  sound = subst IsSound (sym stand.vacant) (sound_vacant s within);
  noted = subst (λ (t : Scenario). AreNoted (length t.clusters) all.clusters) (sym (same_scenario s all stand)) stand.noted;
}

-- The parts of the clusters and the table after the tasks of the init lines were started and named.
pub record HaveBegun (s : Scenario) (all : AllParts) (parts : List ClusterPart) (names : Table) : Type 0 where
  pub started : (table : Table) (groups : List GroupPart) → joined s table parts groups ≡ record (joined s table all.clusters groups) { threads = places 64 (map (begun s) s.inits) }
  pub laid : AreLaid s.clusters (layouts parts)
  pub kept : stored parts ≡ stored all.clusters
  pub accounts : accounts parts ≡ accounts all.clusters
  pub held : holdings parts ≡ holdings all.clusters
  pub named : names ≡ record no_objects { tasks = begun_names s.inits }

-- all parts with other ones of the clusters and another table
abbrev pub with_parts : AllParts → List ClusterPart → Table → AllParts
with_parts all parts names = record all { clusters = parts; table = record all.table { names = names } }

-- They stand for the state in which those tasks are started,
plain_begun : (s : Scenario) (all : AllParts) (parts : List ClusterPart) (names : Table) → StandVacant s all → HaveBegun s all parts names → plain_of (with_parts all parts names) ≡ started s
plain_begun s all parts names stand begin =
    let same = same_scenario s all stand in
    let threads = places 64 (map (begun s) s.inits) in
    ap (λ (t : Scenario). joined t names parts all.groups) same
    ∙ begin.started names all.groups
    ∙ ap (λ (t : Scenario). (let k : Plain = record (joined t names all.clusters all.groups) { threads = threads } in k)) (sym same)
    ∙ ap (λ (k : Plain). (let n : Plain = record k { threads = threads; table = names } in n)) stand.vacant
    ∙ ap (λ (table : Table). (let n : Plain = record (vacant s) { threads = threads; table = table } in n)) begin.named

-- Contributions can be made of them,
pub opening_contributes : (s : Scenario) (all : AllParts) (parts : List ClusterPart) → IsWithinLimits s → StandVacant s all → AreLaid s.clusters (layouts parts) → stored parts ≡ stored all.clusters → accounts parts ≡ accounts all.clusters → CanContribute parts
opening_contributes s all parts within stand laid kept same =
    can_contribute all parts stand.whole (ready_vacant s all within stand).noted (subst (λ (t : Scenario). AreLaid t.clusters (layouts parts)) (sym (same_scenario s all stand)) laid) kept same

-- All parts of the opening state.
pub record AreOpened (s : Scenario) (all : AllParts) : Type 0 where
  pub opening : plain_of all ≡ opening s
  pub ready : IsReady all

-- and settled for the opening state.
pub opened : (s : Scenario) (all : AllParts) (parts made new : List ClusterPart) (names : Table) → IsWithinLimits s → StandVacant s all → HaveBegun s all parts names → map flat made ≡ map flat parts → AreLent (bears parts) (holder (holdings parts)) made → map bare new ≡ map (settled_part []) made → HostsAll new → AreOpened s (with_parts all new names)
opened s all parts made new names within stand begin flats lent done hosts =
    let changed : IsChanged all (with_parts all parts names) (started s) = record {
      settles = subst (λ (k : Plain). CanSettle k (started s)) (sym stand.vacant) (started_settles s within);
      state = plain_begun s all parts names stand begin;
      laid = subst (λ (t : Scenario). AreLaid t.clusters (layouts parts)) (sym (same_scenario s all stand)) begin.laid;
      kept = begin.kept;
      accounts = begin.accounts;
      held = still_held all.clusters parts all.groups all.groups begin.held (λ i. refl) stand.whole.held;
      rest = refl;
    } in
    let is = settled all (with_parts all parts names) made new (started s) [] (ready_vacant s all within stand) changed flats lent done hosts in
    record {
      opening = is.state ∙ ap (λ (k : Plain). settle k (started s) []) stand.vacant;
      ready = is.ready;
    }
