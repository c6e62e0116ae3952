-- What a source or a sink in memory is seen as, and what a call makes of it.
use Rattle.std.specs.Prelude.{ℕ, List, ◌++◌, take, drop, Result, Ok, Err}
use Rattle.rk_io.specs.declared.sink.WriteError.{WriteError}
use Rattle.rk_io.specs.declared.sink.WriteError.TheVariants.{Failed, Memory}
use Rattle.rk_io.specs.Causes.{one_more}

-- a source in memory: the bytes that are left, the most that one call moves,
-- the numbers of the calls that fail, and how many calls and faults there were
pub record Supply : Type 0 where
  pub left : List ℕ
  pub piece : ℕ
  pub fails : List ℕ
  pub calls : ℕ
  pub faults : ℕ

-- a sink in memory: the bytes that were taken, the most that one call moves,
-- the numbers of the calls that fail, and how many calls and faults there were
pub record Store : Type 0 where
  pub taken : List ℕ
  pub piece : ℕ
  pub fails : List ℕ
  pub calls : ℕ
  pub faults : ℕ

-- a source in memory after a read: the call is counted,
-- and it lost the bytes that were read, or has one more fault
abbrev pub after_read : {E : Type 0} → Supply → Result ℕ E → Supply
after_read s (Ok n) = record s { left = drop n s.left; calls = one_more s.calls }
after_read s (Err e) = record s { calls = one_more s.calls; faults = one_more s.faults }

-- a sink in memory after a write: the call is counted,
-- and it has the bytes that were written, or one more fault, or wanted memory
abbrev pub after_write : Store → List ℕ → Result ℕ WriteError → Store
after_write s bytes (Ok n) = record s { taken = s.taken ++ take n bytes; calls = one_more s.calls }
after_write s bytes (Err Failed) = record s { calls = one_more s.calls; faults = one_more s.faults }
after_write s bytes (Err Memory) = record s { calls = one_more s.calls }
