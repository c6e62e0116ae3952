use Rattle.std.proofs.Common.{arith, ◌+◌, ◌-◌, ◌≤◌, ℕ}
use Rattle.std.proofs.lemmas.List.{length-take}
use Rattle.rk_io.proofs.ToldLemmas.{read_front}
use Rattle.rk_io.proofs.memory.MemSourceSource.read.Goals as goal

pub returns-clause-bytes : goal.returns-clause-bytes
returns-clause-bytes c =
    let at = c.self.inside.at in
    let most = at + c.min-most.result - at in
    let few : c.copy_front-count.result ≤ most = omega (arith, length-take {A = ℕ}) in
    rw (← c.self.view_is) (read_front at c.copy_front-count.result most c.self.inside.bytes.items c.copy_front-count.new.buf few (grind (arith, c.copy_front-count.ensures.copied)))
