-- What a source over a reader, or a sink over a writer, of the standard library is seen as.
use Rattle.std.specs.Prelude.{ℕ}

-- the reader or the writer itself, and how many faults there were
pub record Counted (Inner : Type 0) : Type 0 where
  pub inner : Inner
  pub faults : ℕ
