use Rattle.std.proofs.Common.{◌≡◌, ◌++◌, ◌∷◌, [], List, Some, sym, ap, ◌∙◌, subst, arith}
use Rattle.rk_model.specs.declared.state.Armed.{Armed}
use Rattle.rk_model.specs.Scheduling.Timers.{times_armed}
use Rattle.rk_parts.specs.Lent.{found_in, PutsTimers}
use Rattle.rk_parts.specs.declared.parts.ClusterPart.{ClusterPart}
use Rattle.rk_parts.proofs.HeldLemmas.{found_within}
use Rattle.rk_parts.proofs.PutLemmas.{part_is, never_found}
use Rattle.rk_parts.proofs.LentTimerLemmas.{as_retimed, puts_timers, timers_found}
use Rattle.rk_parts.proofs.timers.arm.Goals as goal

pub arm-requires-clause-free : goal.arm-requires-clause-free
arm-requires-clause-free c =
    let parts = c.args.clusters.now in
    let found : found_in parts c.args.thread ≡ Some c.in-Some.at = sym c.place_of.ensures.place ∙ c.in-Some.is in
    ap (λ (p : ClusterPart). times_armed c.args.who p.timers) (part_is parts c.in-Some.at c.index-clusters-at.result (found_within parts c.in-Some.at c.args.thread found))
    ∙ ap (times_armed c.args.who) (sym (timers_found parts c.in-Some.at c.args.thread found)) ∙ c.requires.unarmed

pub returns-in-Some : goal.returns-in-Some
returns-in-Some c =
    let parts = c.args.clusters.now in
    let t = c.args.thread in
    let timer : Armed = record { who = c.args.who; due = c.args.due } in
    let change = λ (ts : List Armed). ts ++ timer ∷ [] in
    let found : found_in parts t ≡ Some c.in-Some.at = sym c.place_of.ensures.place ∙ c.in-Some.is in
    subst (PutsTimers parts t change) (sym (as_retimed parts c.in-Some.at c.index-clusters-at.result c.arm.new.self change (found_within parts c.in-Some.at t found) c.arm.ensures))
    (puts_timers parts c.in-Some.at t change (omega arith) (omega arith) found)

pub returns-in_default : goal.returns-in_default
returns-in_default c = absurd (never_found c.args.clusters.now c.args.thread (omega arith) (omega arith) (sym c.place_of.ensures.place ∙ c.in_default.is) c.requires.lives)
