use Rattle.std.proofs.Common.{Result, Ok, Err, OnErr, ◌++◌, take}
use Rattle.rk_io.proofs.ToldLemmas.{consumes_more}
use Rattle.rk_io.proofs.source.read_all.Goals as goal

on_error : {T E P : Type 0} (r : Result T E) → P → OnErr r P
on_error (Ok x) p = tt
on_error (Err e) p = p

pub returns-in_err-extend_from_slice-clause-prefix : goal.returns-in_err-extend_from_slice-clause-prefix
returns-in_err-extend_from_slice-clause-prefix g c = on_error c.from_residual-in_err-extend_from_slice.result (c.reading.bytes.items ++ take c.in_ok-count.count c.read.new.buf, consumes_more _ _ _ _ _ c.reading.invariant.read c.in_ok-count.ensures.bytes)
