-- When a call may answer that it failed.
use Rattle.std.specs.Prelude.{ℕ, ◌≡◌, ◌⊎◌, ◌+◌, ◌-◌, ◌^◌, ◌<◌, ◌≤◌, min, Result, Ok, Err, OnErr}
use Rattle.rk_io.specs.declared.source.ReadError.{ReadError}
use Rattle.rk_io.specs.declared.source.ReadError.TheVariants as read
use Rattle.rk_io.specs.declared.sink.WriteError.{WriteError}
use Rattle.rk_io.specs.declared.sink.WriteError.TheVariants as write

-- the greatest number of 64 bits, at which a count stays
abbrev pub greatest_count : ℕ
greatest_count = 2 ^ 64 - 1

-- one more, up to the greatest
abbrev pub one_more : ℕ → ℕ
one_more n = min (n + 1) greatest_count

-- a count of faults rose: it is greater than before, or was the greatest before and still is
abbrev pub Rose : ℕ → ℕ → Type 0
Rose before now = (before < now) ⊎ ((before ≡ greatest_count) × (now ≡ greatest_count))

-- a count of faults after a call: one more where the call failed
abbrev pub faults_after : {T E : Type 0} → Result T E → ℕ → ℕ
faults_after (Ok x) before = before
faults_after (Err e) before = one_more before

-- a count of faults never falls, and an error comes only where it rose
pub record HasCause {T E : Type 0} (before now : ℕ) (result : Result T E) : Type 0 where
  pub later : before ≤ now
  pub failed : OnErr result (Rose before now)

abbrev pub ReadFailsOnlyWhere : {T : Type 0} → Result T ReadError → Type 0 → Type 0
ReadFailsOnlyWhere (Ok x) P = Unit {0}
ReadFailsOnlyWhere (Err read.Failed) P = P
ReadFailsOnlyWhere (Err read.Memory) P = Unit {0}

-- the same for reading to the end, which may also want memory
pub record HasReadCause {T : Type 0} (before now : ℕ) (result : Result T ReadError) : Type 0 where
  pub later : before ≤ now
  pub failed : ReadFailsOnlyWhere result (Rose before now)

abbrev pub WriteFailsOnlyWhere : {T : Type 0} → Result T WriteError → Type 0 → Type 0
WriteFailsOnlyWhere (Ok x) P = Unit {0}
WriteFailsOnlyWhere (Err write.Failed) P = P
WriteFailsOnlyWhere (Err write.Memory) P = Unit {0}

-- the same for a write, which may also want memory
pub record HasWriteCause {T : Type 0} (before now : ℕ) (result : Result T WriteError) : Type 0 where
  pub later : before ≤ now
  pub failed : WriteFailsOnlyWhere result (Rose before now)
