use Rattle.std.proofs.Common.{◌≡◌, Some, sym, ◌∙◌, subst, arith}
use Rattle.rk_parts.specs.Lent.{number_in, Replaces}
use Rattle.rk_parts.proofs.PutLemmas.{as_put, some_none}
use Rattle.rk_parts.proofs.ReplaceLemmas.{made, number_within}
use Rattle.rk_parts.proofs.lent.make.Goals as goal

pub returns-in-Some : goal.returns-in-Some
returns-in-Some c =
    let parts = c.args.clusters.now in
    let t = c.args.index in
    let x = c.args.thread in
    let found : number_in parts x.home ≡ Some c.in-Some.at = sym c.number_of.ensures.place ∙ c.in-Some.is in
    subst (Replaces parts t x) (sym (as_put parts c.in-Some.at t c.index-clusters-at.result c.put.new.self x (number_within parts c.in-Some.at x.home found) c.put.ensures))
    (made parts c.in-Some.at t x (omega arith) (omega arith) c.requires.absent c.requires.life found)

pub returns-in_default : goal.returns-in_default
returns-in_default c = absurd (some_none (number_in c.args.clusters.now c.args.thread.home) c.requires.lent (sym c.number_of.ensures.place ∙ c.in_default.is))
