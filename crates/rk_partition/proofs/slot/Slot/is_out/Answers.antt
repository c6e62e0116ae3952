use Rattle.std.proofs.Common.{◌≡◌, refl, sym, ◌∙◌}
use Rattle.rk_model.specs.Lists.{has}
use Rattle.rk_model.proofs.BooleanLemmas.{any_has}
use Rattle.rk_partition.proofs.slot.Slot.is_out.Goals as goal

pub returns-then-has : goal.returns-then-has
returns-then-has c =
    let among : c.contains.result ≡ has c.self.inside.free c.args.address = c.contains.ensures.value ∙ (rw c.as_slice.ensures (any_has c.self.inside.free c.args.address)) in
    let buffer = sym c.has.ensures ∙ c.if-has.true in
    rw (← c.self.view_is, c.in-Some.is, buffer, among) refl
