use Rattle.std.proofs.Common.{◌≡◌, Some, sym, ◌∙◌, subst, arith}
use Rattle.rk_parts.specs.Lent.{found_in, Puts}
use Rattle.rk_parts.proofs.HeldLemmas.{found_within}
use Rattle.rk_parts.proofs.PutLemmas.{as_put, put_puts, never_found}
use Rattle.rk_parts.proofs.lent.put.Goals as goal

pub returns-in-Some : goal.returns-in-Some
returns-in-Some c =
    let parts = c.args.clusters.now in
    let t = c.args.index in
    let x = c.args.thread in
    let found : found_in parts t ≡ Some c.in-Some.at = sym c.place_of.ensures.place ∙ c.in-Some.is in
    subst (Puts parts t x) (sym (as_put parts c.in-Some.at t c.index-clusters-at.result c.put.new.self x (found_within parts c.in-Some.at t found) c.put.ensures))
    (put_puts parts c.in-Some.at t x (omega arith) (omega arith) found c.requires.lives c.requires.life c.requires.home)

pub returns-in_default : goal.returns-in_default
returns-in_default c = absurd (never_found c.args.clusters.now c.args.index (omega arith) (omega arith) (sym c.place_of.ensures.place ∙ c.in_default.is) c.requires.lives)
