-- Who owns which semaphore, and what it does to priorities, as it stands in the parts of the owners' homes.
use Rattle.std.specs.Prelude.{ℕ, ◌≡◌, List, [], ◌∷◌, Option, Some, None, map, replicate, if◌then◌else◌}
use Rattle.rk_model.specs.declared.limits.TheConstants.{MOST_OBJECTS}
use Rattle.rk_model.specs.Lists.{nth, with_nth}
use Rattle.rk_model.specs.State.{SemaphoreState, no_semaphore}
use Rattle.rk_parts.specs.declared.parts.ClusterPart.{ClusterPart}
use Rattle.rk_parts.specs.declared.holdings.Holding.{Holding}
use Rattle.rk_parts.specs.Held.{Held}
use Rattle.rk_parts.specs.Joined.{lives_in}

-- what a part has for each index of a semaphore where none of its threads owns one
abbrev pub no_holdings : Held
no_holdings = record { owners = replicate MOST_OBJECTS None; noted = replicate MOST_OBJECTS None }

-- a holding, if there is one, else the other, if there is one
abbrev pub first_one : Option Holding → Option Holding → Option Holding
first_one (Some t) other = Some t
first_one None other = other

-- who holds a semaphore, in the first of these holdings that have one
abbrev pub holder : List (List (Option Holding)) → ℕ → Option Holding
holder [] i = None
holder (held ∷ more) i = first_one (nth None held i) (holder more i)

-- the holdings of these parts
abbrev pub holdings : List ClusterPart → List (List (Option Holding))
holdings parts = map (λ (part : ClusterPart). part.holdings.owners) parts

-- and those that were noted when the parts settled last
abbrev pub noted_holdings : List ClusterPart → List (List (Option Holding))
noted_holdings parts = map (λ (part : ClusterPart). part.holdings.noted) parts

-- how a semaphore is held, by its owner, if it has one
abbrev pub held_by : SemaphoreState → Option ℕ → Option Holding
held_by sem None = None
held_by sem (Some t) = Some (record { owner = t; protocol = sem.protocol; ceilings = sem.ceilings })

abbrev pub holding_of : SemaphoreState → Option Holding
holding_of sem = held_by sem sem.owner

-- Each semaphore is held by the thread that owns it, and by none where none does.
abbrev pub AreHeld : List (List (Option Holding)) → List SemaphoreState → Type 0
AreHeld held semaphores = (i : ℕ) → holder held i ≡ holding_of (nth no_semaphore semaphores i)

-- a holding, if its owner lives in a part
abbrev pub own : ClusterPart → Option Holding → Option Holding
own part None = None
own part (Some h) = if lives_in part h.owner then Some h else None

-- in a part the owner of a semaphore holds it, if it lives there, and no other thread does
abbrev pub IsNotedIn : ℕ → Option Holding → ClusterPart → Type 0
IsNotedIn i holding part = nth None part.holdings.owners i ≡ own part holding

-- a part after that was noted
abbrev pub with_owner : ℕ → Option Holding → ClusterPart → ClusterPart
with_owner i holding part = record part { holdings = record part.holdings { owners = with_nth part.holdings.owners i (own part holding) } }
