use Rattle.std.proofs.Common.{◌≡◌, Some, sym, ap, ◌∙◌, subst, arith}
use Rattle.rk_parts.specs.Lent.{found_in, Puts}
use Rattle.rk_parts.specs.Threads.{bearing}
use Rattle.rk_parts.specs.Noted.{AreNoted}
use Rattle.rk_parts.proofs.HeldLemmas.{found_within}
use Rattle.rk_parts.proofs.PutLemmas.{as_put, put_puts, noted_put, thread_found, never_found}
use Rattle.rk_parts.proofs.lent.renew.Goals as goal

pub renew-requires : goal.renew-requires
renew-requires c =
    let parts = c.args.clusters.now in
    let found : found_in parts c.args.index ≡ Some c.in-Some.at = sym c.place_of.ensures.place ∙ c.in-Some.is in
    c.requires.bears ∙ ap bearing (thread_found parts c.in-Some.at c.args.index c.index-clusters-at.result (omega arith) (omega arith) found)

pub returns-in-Some : goal.returns-in-Some
returns-in-Some c =
    let parts = c.args.clusters.now in
    let t = c.args.index in
    let x = c.args.thread in
    let found : found_in parts t ≡ Some c.in-Some.at = sym c.place_of.ensures.place ∙ c.in-Some.is in
    let is = as_put parts c.in-Some.at t c.index-clusters-at.result c.renew.new.self x (found_within parts c.in-Some.at t found) c.renew.ensures in
    record {
      puts = subst (Puts parts t x) (sym is) (put_puts parts c.in-Some.at t x (omega arith) (omega arith) found c.requires.lives c.requires.life c.requires.home);
      noted = λ count noted. subst (AreNoted count) (sym is) (noted_put count parts c.in-Some.at t x (omega arith) (omega arith) found c.requires.bears noted);
    }

pub returns-in_default : goal.returns-in_default
returns-in_default c = absurd (never_found c.args.clusters.now c.args.index (omega arith) (omega arith) (sym c.place_of.ensures.place ∙ c.in_default.is) c.requires.lives)
