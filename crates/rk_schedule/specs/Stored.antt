-- The statistics of periods as a state has stored them.
use Rattle.std.specs.Prelude.{ℕ}
use Rattle.rk_model.specs.declared.period.Stats.{Stats}
use Rattle.rk_model.specs.State.{Plain, period_at}

-- the statistics that a state has stored of the period of an index
abbrev pub stored_in : Plain → ℕ → Stats
stored_in k index = (period_at k index).stats
