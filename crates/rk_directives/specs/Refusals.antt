-- Which statuses are those of refusals.
use Rattle.std.specs.Prelude.{ℕ, Bool, false, ◌&&◌, ◌||◌, not, Option, Some, ◌==◌}
use Rattle.rk_model.specs.declared.scenario.Op.{Op}
use Rattle.rk_model.specs.declared.scenario.Op.TheVariants.{PeriodPeriod}

-- Whether a line of a body may be done with TIMEOUT, which is no refusal then: one that begins the next job of a period.
abbrev pub may_be_late : Option Op → Bool
may_be_late (Some (PeriodPeriod id length)) = not (length == 0)
may_be_late o = false

-- whether the number of a status that a line of a body has is that of a refusal: neither 0 (successful) nor 1 (the task has ended) nor 255 (it waits), nor 6 (it is late) where the line may be late
abbrev pub is_refused : Option Op → ℕ → Bool
is_refused o status = not ((status == 0) || (status == 1) || (status == 255) || ((status == 6) && may_be_late o))
