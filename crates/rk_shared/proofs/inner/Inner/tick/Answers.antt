use Rattle.std.proofs.Common.{subst}
use Rattle.rk_model.specs.declared.entry.Entry.{Entry}
use Rattle.rk_model.specs.declared.entry.What.TheVariants.{Tick, End}
use Rattle.rk_model.specs.Steps.{Act, clock_entry}
use Rattle.rk_shared.specs.Keeps.{IsPlaced}
use Rattle.rk_shared.proofs.SeatStepLemmas.{ended_acts, keeps_moved, meets, seen_now, tick_ended, tick_full, tick_not_yet, tick_over, tick_ticked}
use Rattle.rk_shared.proofs.inner.Inner.tick.Goals as goal

pub returns-in-Over-clause-tick : goal.returns-in-Over-clause-tick
returns-in-Over-clause-tick g c =
    let m = meets 8 c.args.mark c.self.invariant c.requires.mark.1 c.meet.ensures.journal c.meet.ensures.mark c.meet.ensures.quiet in
    tick_over m c.in-Over.ensures.state

pub returns-in-Full-clause-tick : goal.returns-in-Full-clause-tick
returns-in-Full-clause-tick g c =
    let m = meets 8 c.args.mark c.self.invariant c.requires.mark.1 c.meet.ensures.journal c.meet.ensures.mark c.meet.ensures.quiet in
    tick_full m c.in-Full.ensures.state

pub returns-in-NotYet-clause-tick : goal.returns-in-NotYet-clause-tick
returns-in-NotYet-clause-tick g c =
    let m = meets 8 c.args.mark c.self.invariant c.requires.mark.1 c.meet.ensures.journal c.meet.ensures.mark c.meet.ensures.quiet in
    tick_not_yet m c.in-NotYet.cpu c.tick_all.new.parts c.in-Open.ensures.state c.in-NotYet.ensures

pub invariant_of-self-in-Ticked : goal.invariant_of-self-in-Ticked
invariant_of-self-in-Ticked g c =
    let m = meets 8 c.args.mark c.self.invariant c.requires.mark.1 c.meet.ensures.journal c.meet.ensures.mark c.meet.ensures.quiet in
    let a : Act = record { entry = clock_entry Tick; next = c.tick_all.new.parts } in
    let placed = subst (λ (x : Entry). IsPlaced x c.meet.new.journal c.place-mark.new.journal) c.of_clock-entry.ensures c.place-mark.ensures.journal in
    keeps_moved m a c.in-Open.ensures.state c.in-Ticked.ensures placed c.place-mark.new.marks c.place-mark.ensures.opening c.place-mark.ensures.parts

pub returns-in-Ticked-clause-tick : goal.returns-in-Ticked-clause-tick
returns-in-Ticked-clause-tick g c =
    let m = meets 8 c.args.mark c.self.invariant c.requires.mark.1 c.meet.ensures.journal c.meet.ensures.mark c.meet.ensures.quiet in
    let a : Act = record { entry = clock_entry Tick; next = c.tick_all.new.parts } in
    let placed = subst (λ (x : Entry). IsPlaced x c.meet.new.journal c.place-mark.new.journal) c.of_clock-entry.ensures c.place-mark.ensures.journal in
    let seen = seen_now m a c.in-Open.ensures.state c.in-Ticked.ensures placed c.place-mark.result c.place-mark.ensures.mark in
    tick_ticked m c.tick_all.new.parts _ c.in-Open.ensures.state c.in-Ticked.ensures seen

pub invariant_of-self-in-Ended : goal.invariant_of-self-in-Ended
invariant_of-self-in-Ended g c =
    let m = meets 8 c.args.mark c.self.invariant c.requires.mark.1 c.meet.ensures.journal c.meet.ensures.mark c.meet.ensures.quiet in
    let a : Act = record { entry = clock_entry End; next = c.tick_all.new.parts } in
    let placed = subst (λ (x : Entry). IsPlaced x c.meet.new.journal c.place-mark-in-Ended.new.journal) c.of_clock-entry-in-Ended.ensures c.place-mark-in-Ended.ensures.journal in
    keeps_moved m a c.in-Open.ensures.state (ended_acts c.self.inside.parts c.tick_all.new.parts c.in-Ended.ensures) placed c.place-mark-in-Ended.new.marks c.place-mark-in-Ended.ensures.opening c.place-mark-in-Ended.ensures.parts

pub returns-in-Ended-clause-tick : goal.returns-in-Ended-clause-tick
returns-in-Ended-clause-tick g c =
    let m = meets 8 c.args.mark c.self.invariant c.requires.mark.1 c.meet.ensures.journal c.meet.ensures.mark c.meet.ensures.quiet in
    let a : Act = record { entry = clock_entry End; next = c.tick_all.new.parts } in
    let placed = subst (λ (x : Entry). IsPlaced x c.meet.new.journal c.place-mark-in-Ended.new.journal) c.of_clock-entry-in-Ended.ensures c.place-mark-in-Ended.ensures.journal in
    let seen = seen_now m a c.in-Open.ensures.state (ended_acts c.self.inside.parts c.tick_all.new.parts c.in-Ended.ensures) placed c.place-mark-in-Ended.result c.place-mark-in-Ended.ensures.mark in
    tick_ended m c.tick_all.new.parts _ c.in-Open.ensures.state c.in-Ended.ensures seen
