-- Priorities as lent parts have them, by what was contributed to them when the parts settled last.
use Rattle.std.specs.Prelude.{ℕ, List, [], ◌∷◌, ◌==◌, Option, None, if◌then◌else◌}
use Rattle.rk_model.specs.Scheduling.Priorities.{or_least_urgent}
use Rattle.rk_agg.specs.Shares.{found, least_source}
use Rattle.rk_parts.specs.declared.parts.ClusterPart.{ClusterPart}
use Rattle.rk_parts.specs.Joined.{thread_lent}

-- the priority of a thread in a cluster, if the part of that is lent and the thread has one there
abbrev pub prio_lent : List ClusterPart → ℕ → ℕ → Option ℕ
prio_lent [] t c = None
prio_lent (part ∷ parts) t c = if part.lined.number == c then least_source (found part.threads.shares t c) else prio_lent parts t c

-- that in its home; the least urgent one where it has none
abbrev pub home_prio_lent : List ClusterPart → ℕ → ℕ
home_prio_lent parts t = or_least_urgent (prio_lent parts t (thread_lent parts t).home)
