use Rattle.std.proofs.Common.{ap, subst, ◌≡◌, List}
use Rattle.rk_journal.specs.declared.views.Noted.{Noted}
use Rattle.rk_journal.specs.Logs.{Quiet}
use Rattle.rk_journal.proofs.MarkTokenLemmas.{quiet_told}
use Rattle.rk_journal.proofs.journal.meet.Goals as goal

pub returns-clause-quiet : goal.returns-clause-quiet
returns-clause-quiet c =
    let t = c.take_in.ensures.told in
    let log : c.journal.inside.token.me.0.list ≡ c.args.journal.now.log = ap (λ b. b.log) c.journal.view_is in
    subst (λ (l : List Noted). Quiet c.args.mark.now.key c.args.mark.now.front l) log
    (quiet_told _ c.mark.inside.token c.in-Some.own c.args.mark.now _ c.in-Some.ensures.value c.mark.view_is c.mark.invariant.1 t.1)
