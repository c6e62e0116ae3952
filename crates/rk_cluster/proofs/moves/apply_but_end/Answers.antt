use Rattle.std.proofs.Common.{⊎_elim, Some, ◌∷◌, List, ◌∙◌, sym, refl, ap}
use Rattle.rk_line.specs.declared.line.Place.{Place}
use Rattle.rk_line.proofs.LineLemmas.{gone}
use Rattle.rk_cluster.specs.declared.moves.Change.{Change}
use Rattle.rk_cluster.proofs.RegisterPassLemmas.{kept_none, kept_out, kept_stay}
use Rattle.rk_cluster.proofs.moves.apply_but_end.Goals as goal

pub returns-in_default : goal.returns-in_default
returns-in_default c = rw c.in_default.is (sym (kept_none c.args.thread c.args.line.now))

pub prepend-requires : goal.prepend-requires
prepend-requires c = rw c.take_out-in-ToFront.ensures (gone c.args.thread c.args.line.now)

pub returns-in-Leave : goal.returns-in-Leave
returns-in-Leave c =
    ⊎_elim
    (λ e. let is = c.in-Some.is ∙ ap (λ (change : Change). Some change) e in rw is (c.take_out.ensures ∙ sym (kept_out c.args.thread _ c.args.line.now (λ place. refl))))
    (λ e. let is = c.in-Some.is ∙ ap (λ (change : Change). Some change) e.1 in rw is (c.take_out.ensures ∙ sym (kept_out c.args.thread _ c.args.line.now (λ place. refl))))
    c.in-Leave.is

pub returns-in-ToFront : goal.returns-in-ToFront
returns-in-ToFront c =
    let out = c.take_out-in-ToFront.ensures ∙ sym (kept_out c.args.thread _ c.args.line.now (λ place. refl)) in
    rw (c.in-Some.is, c.in-ToFront.is) (c.prepend.ensures ∙ ap (λ (line : List Place). (record { thread = c.args.thread; prio = c.in-ToFront.prio }) ∷ line) out)

pub returns-in-Stay : goal.returns-in-Stay
returns-in-Stay c = rw (c.in-Some.is, c.in-Stay.is) (c.change_in.ensures ∙ sym (kept_stay c.args.thread c.in-Stay.prio c.args.line.now))
