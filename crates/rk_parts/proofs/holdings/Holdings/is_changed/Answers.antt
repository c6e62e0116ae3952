use Rattle.std.proofs.Common.{◌≡◌, subst}
use Rattle.rk_parts.specs.Held.{Held}
use Rattle.rk_parts.proofs.HoldingLemmas.{nothing_changed, is_none}
use Rattle.rk_parts.proofs.holdings.Holdings.is_changed.Goals as goal

pub returns : goal.returns
returns c = record {
  same = λ e. subst (λ (h : Held). h.owners ≡ h.noted) c.self.view_is (nothing_changed c.self.inside.owners c.self.inside.noted c.self.inside.changed c.self.inside.capped c.self.inside.raised (is_none c.is_empty.result c.self.inside.changed c.is_empty.ensures e) c.self.invariant);
}
