use Rattle.std.proofs.Common.{◌≡◌, drop}
use Rattle.std.specs.List.{list_any}
use Rattle.std.specs.Str.{bytes_eq}
use Rattle.std.specs.Fmt.{decimal}
use Rattle.rk_model.specs.Status.{status_code}
use Rattle.rk_schedule.proofs.forms.is_status_of.Given as goal

abbrev pub invariant-loop-status : goal.invariant-loop-status
invariant-loop-status l = list_any (λ status. bytes_eq l.word (decimal (status_code status))) (drop l.status-index l.statuses) ≡ list_any (λ status. bytes_eq l.word (decimal (status_code status))) l.statuses
