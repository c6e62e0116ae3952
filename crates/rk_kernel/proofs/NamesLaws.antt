-- Names and objects agree in each state that a legal history leads to, and nothing is left of deleted ones.
use Rattle.std.proofs.Common.{◌≡◌, ℕ, ◌≤◌, ◌&&◌, false, cond, nat_le, arith, sym, ◌∙◌}
use Rattle.std.proofs.lemmas.Bool.Decides.{nat_tests}
use Rattle.rk_model.specs.declared.ids.Class.{Class}
use Rattle.rk_model.specs.declared.ids.Class.TheVariants.{Task, Semaphore, Barrier, Partition, Period}
use Rattle.rk_model.specs.Names.{lives}
use Rattle.rk_model.specs.State.{Plain, objects_of, no_thread, no_semaphore, no_barrier, no_partition, no_period, thread_at, semaphore_at, barrier_at, partition_at, period_at}
use Rattle.rk_model.specs.Directives.Objects.{names_in}
use Rattle.rk_kernel.specs.SchedulingLaws.{HasNames, NamesAndObjectsAgree, NothingIsLeftOfDeletedTasks, NothingIsLeftOfDeletedSemaphores, NothingIsLeftOfDeletedBarriers, NothingIsLeftOfDeletedPartitions, NothingIsLeftOfDeletedPeriods}
use Rattle.rk_directives.specs.Sound.{IsSound}
use Rattle.rk_directives.proofs.NamesAgreeLemmas.{object_lives}
use Rattle.rk_kernel.proofs.HistoryLemmas.{sound_after}

once_within : (n index : ℕ) → n ≡ cond (nat_le 1 index && nat_le index 64) 1 0 → 1 ≤ index → index ≤ 64 → n ≡ 1
once_within n index split low high = grind (arith, nat_tests, split, low, high)

has_names : (k : Plain) (class : Class) → IsSound k → HasNames k class
has_names k class sound = record {
  once = λ index low high. once_within _ index ((sound.named.class class).split index) low high;
  begun = λ index. object_lives k.table (objects_of k) class index sound.named;
}

pub names_agree : NamesAndObjectsAgree
names_agree s xs is legal class = has_names _ class (sound_after s xs is legal)

nothing_left : (k : Plain) (t : ℕ) → IsSound k → lives (names_in k Task) t ≡ false → thread_at k t ≡ no_thread
nothing_left k t sound dead = sound.named.blank t (sym (object_lives k.table (objects_of k) Task t sound.named) ∙ dead)

pub deleted_left : NothingIsLeftOfDeletedTasks
deleted_left s xs is legal t dead = nothing_left _ t (sound_after s xs is legal) dead

no_semaphore_left : (k : Plain) (i : ℕ) → IsSound k → lives (names_in k Semaphore) i ≡ false → semaphore_at k i ≡ no_semaphore
no_semaphore_left k i sound dead = sound.named.free i (sym (object_lives k.table (objects_of k) Semaphore i sound.named) ∙ dead)

pub semaphores_left : NothingIsLeftOfDeletedSemaphores
semaphores_left s xs is legal i dead = no_semaphore_left _ i (sound_after s xs is legal) dead

no_barrier_left : (k : Plain) (i : ℕ) → IsSound k → lives (names_in k Barrier) i ≡ false → barrier_at k i ≡ no_barrier
no_barrier_left k i sound dead = sound.named.bare i (sym (object_lives k.table (objects_of k) Barrier i sound.named) ∙ dead)

pub barriers_left : NothingIsLeftOfDeletedBarriers
barriers_left s xs is legal i dead = no_barrier_left _ i (sound_after s xs is legal) dead

no_partition_left : (k : Plain) (i : ℕ) → IsSound k → lives (names_in k Partition) i ≡ false → partition_at k i ≡ no_partition
no_partition_left k i sound dead = sound.named.unused i (sym (object_lives k.table (objects_of k) Partition i sound.named) ∙ dead)

pub partitions_left : NothingIsLeftOfDeletedPartitions
partitions_left s xs is legal i dead = no_partition_left _ i (sound_after s xs is legal) dead

no_period_left : (k : Plain) (i : ℕ) → IsSound k → lives (names_in k Period) i ≡ false → period_at k i ≡ no_period
no_period_left k i sound dead = sound.named.idle i (sym (object_lives k.table (objects_of k) Period i sound.named) ∙ dead)

pub periods_left : NothingIsLeftOfDeletedPeriods
periods_left s xs is legal i dead = no_period_left _ i (sound_after s xs is legal) dead
