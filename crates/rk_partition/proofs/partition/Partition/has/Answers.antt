use Rattle.std.proofs.Common.{◌≡◌, ◌<◌, Bool, ◌-◌, ◌/◌, ◌%◌, ◌==◌, nat_lt, ◌&&◌, false, true, arith, sym, ap, ◌∙◌}
use Rattle.std.proofs.lemmas.Bool.Decides.{nat_tests}
use Rattle.rk_model.proofs.BooleanLemmas.{equal_test}
use Rattle.rk_partition.proofs.BufferLemmas.{none_before, is_one_of}
use Rattle.rk_partition.proofs.partition.Partition.has.Goals as goal

pub returns-then-address-self : goal.returns-then-address-self
returns-then-address-self c = none_before c.args.self.start c.args.self.size (c.args.self.length / c.args.self.size) c.args.address c.if-address-self.true

pub returns-then-offset-self-eq0 : goal.returns-then-offset-self-eq0
returns-then-offset-self-eq0 c =
    let some : 0 < c.args.self.size = omega arith in
    let even : ((c.args.address - c.args.self.start) % c.args.self.size == 0) ≡ true = equal_test _ 0 c.if-offset-self-eq0.true in
    let near = nat_lt ((c.args.address - c.args.self.start) / c.args.self.size) (c.args.self.length / c.args.self.size) in
    rw c.count.ensures (ap (λ (b : Bool). b && near) (sym even) ∙ is_one_of c.args.self.start c.args.self.size (c.args.self.length / c.args.self.size) c.args.address some c.if-address-self.false)

pub returns-else-offset-self-eq0 : goal.returns-else-offset-self-eq0
returns-else-offset-self-eq0 c =
    let some : 0 < c.args.self.size = omega arith in
    let odd : ((c.args.address - c.args.self.start) % c.args.self.size == 0) ≡ false = grind (arith, nat_tests, c.if-offset-self-eq0.false) in
    let near = nat_lt ((c.args.address - c.args.self.start) / c.args.self.size) (c.args.self.length / c.args.self.size) in
    odd ∙ (ap (λ (b : Bool). b && near) (sym odd) ∙ is_one_of c.args.self.start c.args.self.size (c.args.self.length / c.args.self.size) c.args.address some c.if-address-self.false)
