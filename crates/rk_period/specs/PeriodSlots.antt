-- What the code has of a period, as the definitions see it.
use Rattle.std.specs.Prelude.{true, Option, Some, None}
use Rattle.rk_period.specs.declared.period.Period.{Period}
use Rattle.rk_model.specs.State.{PeriodState, no_period}

-- the place of a period
abbrev pub place_with : Period → PeriodState
place_with period = record { live = true; creator = period.creator; phase = period.phase; stats = period.stats }

-- the place of a period, if there is one
abbrev pub stored_by : Option Period → PeriodState
stored_by None = no_period
stored_by (Some period) = place_with period
