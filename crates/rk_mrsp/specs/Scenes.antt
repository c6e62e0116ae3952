-- Chains and processors as code has them, and what of helping they say.
use Rattle.std.specs.Prelude.{ℕ, ◌+◌, ◌≡◌, ◌≤◌, List, [], ◌∷◌, ◌++◌, Bool, true, false, ◌||◌, Option, Some, None, ◌==◌, length, replicate, if◌then◌else◌}
use Rattle.rk_model.specs.declared.limits.TheConstants.{MOST_OBJECTS, MOST_PROCESSORS}
use Rattle.rk_model.specs.Lists.{nth, has, times}
use Rattle.rk_model.specs.Scheduling.Helping.{Scene, helped_in}
use Rattle.rk_mrsp.specs.declared.chains.Link.{Link}
use Rattle.rk_mrsp.specs.declared.seats.Seat.{Seat}

-- the link of what is no thread
abbrev pub no_link : Link
no_link = record { on = None; spins = false; ready = false }

abbrev pub no_links : List Link
no_links = replicate MOST_OBJECTS no_link

-- the link of the thread of an index
abbrev pub link_of : List Link → ℕ → Link
link_of links t = nth no_link links t

-- the thread on which a thread waits
abbrev pub step_in : List Link → ℕ → Option ℕ
step_in links t = (link_of links t).on

-- the thread of a processor
abbrev pub cpu_in : List Seat → ℕ → Option ℕ
cpu_in [] p = None
cpu_in (seat ∷ seats) p = if seat.cpu == p then Some seat.thread else cpu_in seats p

-- whether a processor is one of these
abbrev pub has_seat : List Seat → ℕ → Bool
has_seat [] p = false
has_seat (seat ∷ seats) p = (seat.cpu == p) || has_seat seats p

-- the numbers of these processors, each one more
abbrev pub numbers : List Seat → List ℕ
numbers [] = []
numbers (seat ∷ seats) = (seat.cpu + 1) ∷ numbers seats

-- Each of these is one of the 8 processors, and stands there once.
pub record AreSeats (seats : List Seat) : Type 0 where
  pub once : (n : ℕ) → times n (numbers seats) ≤ 1
  pub within : (n : ℕ) → has (numbers seats) n ≡ true → (1 ≤ n) × (n ≤ MOST_PROCESSORS)

-- What of helping these chains and these processors with their threads say.
abbrev pub scene_in : List Link → List Seat → Scene
scene_in links seats = record { threads = length links; on = step_in links; spins = λ t. (link_of links t).spins; ready = λ t. (link_of links t).ready; cpu = cpu_in seats }

-- a processor with the thread that it helps, if it helps one
abbrev pub host_on : ℕ → Option ℕ → List Seat
host_on p None = []
host_on p (Some e) = record { cpu = p; thread = e } ∷ []

-- the processors of these that help a thread, with that thread
abbrev pub hosts_of : Scene → List Seat → List Seat
hosts_of x [] = []
hosts_of x (seat ∷ seats) = host_on seat.cpu (helped_in x seat.cpu) ++ hosts_of x seats
