use Rattle.std.proofs.Common.{refl, sym, ◌∙◌}
use Rattle.std.proofs.lemmas.Bool.{false≢true}
use Rattle.rk_partition.specs.Partitions.{IsStored}
use Rattle.rk_partition.proofs.BufferLemmas.{fewer_free, one_out}
use Rattle.rk_partition.proofs.slot.Slot.remove.Goals as goal

pub returns-then-is_in_use-clause-out : goal.returns-then-is_in_use-clause-out
returns-then-is_in_use-clause-out c =
    let is : IsStored c.args.self.now = rw (← c.self.view_is) c.self.invariant in
    ((λ used. one_out c.args.self.now is (sym c.is_in_use.ensures ∙ c.if-is_in_use.true)), (λ has_out. refl))

pub returns-clause-out : goal.returns-clause-out
returns-clause-out c =
    let is : IsStored c.args.self.now = rw (← c.self.view_is) c.self.invariant in
    ((λ used. absurd (let no : ⊥ = cc in no)), (λ has_out. absurd (false≢true (sym c.if-is_in_use.false ∙ (c.is_in_use.ensures ∙ fewer_free c.args.self.now is has_out)))))
