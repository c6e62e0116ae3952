-- Whom the processors of lent parts help, as it follows from the parts, and as it is noted in them.
use Rattle.std.specs.Prelude.{ℕ, zero, suc, ◌≡◌, List, [], ◌∷◌, ◌++◌, Bool, false, ◌&&◌, ◌||◌, Option, Some, None, length, if◌then◌else◌}
use Rattle.rk_model.specs.declared.limits.TheConstants.{MOST_PROCESSORS}
use Rattle.rk_model.specs.declared.scenario.Scenario.{Scenario}
use Rattle.rk_model.specs.declared.state.Thread.{Thread}
use Rattle.rk_model.specs.Lists.{with_nth}
use Rattle.rk_model.specs.Scheduling.Helping.{Scene, helped_in}
use Rattle.rk_model.specs.Scheduling.Priorities.{is_no_wait, is_spinning}
use Rattle.rk_mrsp.specs.declared.chains.Link.{Link}
use Rattle.rk_mrsp.specs.Scenes.{cpu_in, scene_in, hosts_of}
use Rattle.rk_parts.specs.declared.parts.ClusterPart.{ClusterPart}
use Rattle.rk_groups.specs.declared.group.GroupPart.{GroupPart}
use Rattle.rk_groups.specs.GroupObjects.{semaphores_of}
use Rattle.rk_parts.specs.HeldChains.{waits_on_holder}
use Rattle.rk_parts.specs.Holdings.{AreHeld, holdings}
use Rattle.rk_parts.specs.Joined.{placed_in, threads_of, thread_lent}
use Rattle.rk_parts.specs.Lent.{AreLaid, layouts}
use Rattle.rk_parts.specs.Seats.{is_seat, seat_in}
use Rattle.rk_parts.specs.Threads.{bearing, is_ready}

-- whether a thread could run, by itself: it is eligible and waits for nothing
abbrev pub could_run : Thread → Bool
could_run thread = is_ready (bearing thread) && is_no_wait thread.wait

-- how a thread of these parts stands in its chain
abbrev pub link_lent : List ClusterPart → ℕ → Link
link_lent parts t = record { on = waits_on_holder parts t; spins = is_spinning (thread_lent parts t).wait; ready = could_run (thread_lent parts t) }

-- What of helping these parts say.
abbrev pub scene_lent : List ClusterPart → Scene
scene_lent parts = record { threads = length (threads_of parts); on = λ t. (link_lent parts t).on; spins = λ t. (link_lent parts t).spins; ready = λ t. (link_lent parts t).ready; cpu = seat_in parts }

-- the thread that a processor helps, as it is noted in the first of these parts that has the processor
abbrev pub hosted_in : List ClusterPart → ℕ → Option ℕ
hosted_in [] p = None
hosted_in (part ∷ parts) p = if is_seat part.lined.first (length part.lined.cpus) p then cpu_in part.hosting p else hosted_in parts p

-- It is noted of each processor of these parts whom it helps.
abbrev pub AreHosted : List ClusterPart → Type 0
AreHosted parts = (p : ℕ) → hosted_in parts p ≡ helped_in (scene_lent parts) p

-- These parts show what the processors of a state do: they are parts of it, each semaphore is held by its owner, and it is noted whom processors help.
pub record ShowRunning (s : Scenario) (groups : List GroupPart) (parts : List ClusterPart) : Type 0 where
  pub laid : AreLaid s.clusters (layouts parts)
  pub held : AreHeld (holdings parts) (semaphores_of groups)
  pub hosted : AreHosted parts

-- ---- how it is noted

-- a part with another link of a thread
abbrev pub with_link : ℕ → Link → ClusterPart → ClusterPart
with_link t link part = record part { chains = with_nth part.chains t link }

-- without a processor that has a thread
abbrev pub without_seats : ClusterPart → ClusterPart
without_seats part = record part { seats = [] }

-- with one more
abbrev pub with_seat : ℕ → ℕ → ClusterPart → ClusterPart
with_seat p t part = record part { seats = part.seats ++ record { cpu = p; thread = t } ∷ [] }

-- a part that notes whom processors help, by its chains and its processors that have threads
abbrev pub hosting_part : ClusterPart → ClusterPart
hosting_part part = record part { hosting = hosts_of (scene_in part.chains part.seats) part.seats }

-- or that none is helped
abbrev pub idle_part : ClusterPart → ClusterPart
idle_part part = record part { hosting = [] }

-- No thread spins that a part has, and it is noted there that none is helped.
pub record IsStill (part : ClusterPart) : Type 0 where
  pub none : (t : ℕ) → is_spinning (placed_in part t).wait ≡ false
  pub idle : part.hosting ≡ []

-- whether one of the first p processors has a thread that spins
abbrev pub spins_at : Scene → Option ℕ → Bool
spins_at x None = false
spins_at x (Some u) = x.spins u

abbrev pub spins_below : Scene → ℕ → Bool
spins_below x zero = false
spins_below x (suc p) = spins_at x (x.cpu p) || spins_below x p

unfoldable pub has_spinner : Scene → Bool
has_spinner x = spins_below x MOST_PROCESSORS
