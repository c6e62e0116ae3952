-- The numbers of the statuses in decimal digits.
use Rattle.std.proofs.Common.{◌≡◌, ℕ, List, codes, refl}
use Rattle.std.specs.Fmt.{decimal, digits}
use Rattle.rk_model.specs.Status.{status_code}
use Rattle.rk_model.specs.declared.status.Status.{Status}
use Rattle.rk_model.specs.declared.status.Status.TheVariants.{Successful, TaskExitted, InvalidName, InvalidId, TooMany, Timeout, ObjectWasDeleted, InvalidSize, InvalidAddress, InvalidNumber, NotDefined, ResourceInUse, Unsatisfied, IncorrectState, AlreadySuspended, InvalidPriority, NotOwnerOfResource, Waits}

-- the number of a status in decimal digits
abbrev pub written : Status → List ℕ
written Successful = codes "0"
written TaskExitted = codes "1"
written InvalidName = codes "3"
written InvalidId = codes "4"
written TooMany = codes "5"
written Timeout = codes "6"
written ObjectWasDeleted = codes "7"
written InvalidSize = codes "8"
written InvalidAddress = codes "9"
written InvalidNumber = codes "10"
written NotDefined = codes "11"
written ResourceInUse = codes "12"
written Unsatisfied = codes "13"
written IncorrectState = codes "14"
written AlreadySuspended = codes "15"
written InvalidPriority = codes "19"
written NotOwnerOfResource = codes "23"
written Waits = codes "255"

pub written_is : (status : Status) → decimal (status_code status) ≡ written status
unfolding digits
written_is Successful = refl
written_is TaskExitted = refl
written_is InvalidName = refl
written_is InvalidId = refl
written_is TooMany = refl
written_is Timeout = refl
written_is ObjectWasDeleted = refl
written_is InvalidSize = refl
written_is InvalidAddress = refl
written_is InvalidNumber = refl
written_is NotDefined = refl
written_is ResourceInUse = refl
written_is Unsatisfied = refl
written_is IncorrectState = refl
written_is AlreadySuspended = refl
written_is InvalidPriority = refl
written_is NotOwnerOfResource = refl
written_is Waits = refl
