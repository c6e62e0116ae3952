use Rattle.std.proofs.Common.{ℕ, [], ap, ◌∙◌}
use Rattle.std.specs.Option.{option_to_list}
use Rattle.rk_cluster.specs.Clusters.{settled}
use Rattle.rk_parts.specs.ClusterRegisters.{register}
use Rattle.rk_parts.specs.Noted.{standings_in}
use Rattle.rk_parts.proofs.settle.settle_part.Goals as goal

pub returns : goal.returns
returns c =
    let part = c.args.part.now in
    let lined = c.settle.ensures ∙ ap (λ changes. settled changes part.lined) c.fill_register.ensures
    ∙ ap (λ (n : ℕ). settled (register part.threads.stood (standings_in part) (option_to_list c.args.last.now) n) part.lined) c.number-number.ensures.value in
    λ i. record { present = part.present; lined = lined i; timers = part.timers; threads = c.note.ensures i; holdings = c.note-2.ensures i; moves = []; chains = []; seats = []; hosting = [] }
