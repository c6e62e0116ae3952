use Rattle.rk_model.specs.Steps.{Act}
use Rattle.rk_shared.proofs.SeatStepLemmas.{is_there, keeps_moved, meets, seen_now, step_did, step_full, step_nothing, step_over}
use Rattle.rk_shared.proofs.inner.Inner.step.Goals as goal

pub step_all-requires : goal.step_all-requires
step_all-requires g c =
    let m = meets c.args.number c.args.mark c.self.invariant c.requires.mark.1 c.meet.ensures.journal c.meet.ensures.mark c.meet.ensures.quiet in
    is_there m c.requires.number

pub returns-in-Over-clause-step : goal.returns-in-Over-clause-step
returns-in-Over-clause-step g c =
    let m = meets c.args.number c.args.mark c.self.invariant c.requires.mark.1 c.meet.ensures.journal c.meet.ensures.mark c.meet.ensures.quiet in
    step_over m c.in-Over.ensures.state

pub returns-in-Full-clause-step : goal.returns-in-Full-clause-step
returns-in-Full-clause-step g c =
    let m = meets c.args.number c.args.mark c.self.invariant c.requires.mark.1 c.meet.ensures.journal c.meet.ensures.mark c.meet.ensures.quiet in
    step_full m c.in-Full.ensures.state

pub returns-in-Nothing-clause-step : goal.returns-in-Nothing-clause-step
returns-in-Nothing-clause-step g c =
    let m = meets c.args.number c.args.mark c.self.invariant c.requires.mark.1 c.meet.ensures.journal c.meet.ensures.mark c.meet.ensures.quiet in
    step_nothing m c.in-Nothing.why c.step_all.new.parts c.in-Open.ensures.state c.requires.number c.in-Nothing.ensures.step

pub invariant_of-self-in-Did : goal.invariant_of-self-in-Did
invariant_of-self-in-Did g c =
    let m = meets c.args.number c.args.mark c.self.invariant c.requires.mark.1 c.meet.ensures.journal c.meet.ensures.mark c.meet.ensures.quiet in
    let a : Act = record { entry = c.in-Did.entry; next = c.step_all.new.parts } in
    keeps_moved m a c.in-Open.ensures.state c.in-Did.ensures.step c.place-mark.ensures.journal c.place-mark.new.marks c.place-mark.ensures.opening c.place-mark.ensures.parts

pub returns-in-Did-clause-step : goal.returns-in-Did-clause-step
returns-in-Did-clause-step g c =
    let m = meets c.args.number c.args.mark c.self.invariant c.requires.mark.1 c.meet.ensures.journal c.meet.ensures.mark c.meet.ensures.quiet in
    let a : Act = record { entry = c.in-Did.entry; next = c.step_all.new.parts } in
    let seen = seen_now m a c.in-Open.ensures.state c.in-Did.ensures.step c.place-mark.ensures.journal c.place-mark.result c.place-mark.ensures.mark in
    step_did m a _ c.in-Open.ensures.state c.in-Did.ensures.step seen
