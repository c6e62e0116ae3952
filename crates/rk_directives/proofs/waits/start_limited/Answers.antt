use Rattle.std.proofs.Common.{◌≡◌, ◌+◌, ap, ◌∙◌}
use Rattle.rk_parts.specs.Joined.{present_of}
use Rattle.rk_directives.proofs.DirectiveLemmas.LentLemmas.{not_zero, limited}
use Rattle.rk_directives.proofs.waits.start_limited.Goals as goal

pub returns-else-ticks-eq0 : goal.returns-else-ticks-eq0
returns-else-ticks-eq0 c = λ s.
    let due : c.from.result + c.from-else-ticks-eq0.result ≡ present_of c.args.clusters.now + c.args.ticks = ap (λ n. n + c.from-else-ticks-eq0.result) (c.from.ensures ∙ c.present.ensures) ∙ ap (λ n. present_of c.args.clusters.now + n) c.from-else-ticks-eq0.ensures in
    limited s c.args.clusters.now c.arm.new.clusters c.start_wait-else-ticks-eq0.new.clusters c.args.caller c.args.wait c.args.ticks _ (not_zero c.args.ticks c.if-ticks-eq0.false) due c.arm.ensures c.start_wait-else-ticks-eq0.ensures
