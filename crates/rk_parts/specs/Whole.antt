-- All parts of a running kernel.
use Rattle.std.specs.Prelude.{ℕ, ◌≡◌, ◌<◌, List, [], ◌∷◌, map, length, replicate}
use Rattle.rk_parts.specs.declared.parts.ClusterPart.{ClusterPart}
use Rattle.rk_groups.specs.declared.group.GroupPart.{GroupPart}
use Rattle.rk_parts.specs.declared.parts.AllParts.{AllParts}
use Rattle.rk_parts.specs.Holdings.{AreHeld, holdings}
use Rattle.rk_groups.specs.GroupObjects.{semaphore_group, barrier_group, partition_group, period_group, semaphores_of}
use Rattle.rk_parts.specs.Joined.{present_of}
use Rattle.rk_parts.specs.Lent.{Stored, AreLaid, layouts, stored}
use Rattle.rk_parts.specs.Noted.{part_at}

-- the ticks of parts that store this
abbrev pub ticks_of : List Stored → List ℕ
ticks_of parts = map (λ (part : Stored). part.present) parts

-- the ticks of these groups
abbrev pub ticks_in : List GroupPart → List ℕ
ticks_in groups = map (λ (group : GroupPart). group.present) groups

-- a part with another tick
abbrev pub at_tick : ℕ → ClusterPart → ClusterPart
at_tick tick part = record part { present = tick }

abbrev pub group_at_tick : ℕ → GroupPart → GroupPart
group_at_tick tick group = record group { present = tick }

-- All parts have the present tick.
pub record AreOnTime (all : AllParts) : Type 0 where
  pub clusters : ticks_of (stored all.clusters) ≡ replicate 4 (present_of all.clusters)
  pub groups : ticks_in all.groups ≡ replicate 4 (present_of all.clusters)
  pub table : all.table.present ≡ present_of all.clusters

-- These are the groups 0 to 3, by a number that each group has.
abbrev pub AreFour : (GroupPart → ℕ) → List GroupPart → Type 0
AreFour number groups = map number groups ≡ 0 ∷ 1 ∷ 2 ∷ 3 ∷ []

-- These are all parts of a running kernel: those of the clusters 0 to 3, laid as parts of its state, and those of the groups 0 to 3; each semaphore is held by its owner; and they are on time.
pub record AreWhole (all : AllParts) : Type 0 where
  pub four : length all.clusters ≡ 4
  pub numbers : (c : ℕ) → c < 4 → (part_at all.clusters c).lined.number ≡ c
  pub laid : AreLaid all.scenario.clusters (layouts all.clusters)
  pub groups : AreFour barrier_group all.groups
  pub semaphores : AreFour semaphore_group all.groups
  pub partitions : AreFour partition_group all.groups
  pub periods : AreFour period_group all.groups
  pub held : AreHeld (holdings all.clusters) (semaphores_of all.groups)
  pub time : AreOnTime all
