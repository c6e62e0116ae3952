use Rattle.std.proofs.Common.{arith, sym, ◌∙◌}
use Rattle.rk_parts.proofs.NotedHostLemmas.{cleared_kept, cleared_links, cleared_seats, free_seat, seat_kept, seat_links, one_more_seat, no_more_seat}
use Rattle.rk_parts.proofs.NotedHostLemmas.{none_there, there_still}
use Rattle.rk_parts.proofs.helping.note_seats.Goals as goal
use Rattle.rk_parts.proofs.helping.note_seats.Goals.{in-Some, in_default}

pub loop-cpu-init : goal.loop-cpu-init
loop-cpu-init c =
    let old = c.args.clusters.now in
    let new = c.clear_seats.new.clusters in
    record {
      kept = cleared_kept old new c.clear_seats.ensures;
      high = omega arith;
      links = cleared_links old new c.clear_seats.ensures;
      seats = cleared_seats old new c.clear_seats.ensures;
    }

pub note_seat-requires-clause-free : goal.note_seat-requires-clause-free
note_seat-requires-clause-free c = free_seat c.args.clusters.now c.loop-cpu.clusters c.loop-cpu.cpu c.loop-cpu.invariant.seats

pub loop-cpu-preserved : goal.loop-cpu-preserved
loop-cpu-preserved c =
    let old = c.args.clusters.now in
    let now = c.loop-cpu.clusters in
    let p = c.loop-cpu.cpu in
    elim c.match-cpu_of.branch [
      | in-Some w ↦
          rw w.clusters-is
          (record {
            kept = seat_kept old now w.note_seat.new.clusters p w.in-Some.thread w.note_seat.ensures c.loop-cpu.invariant.kept;
            high = omega arith;
            links = seat_links old now w.note_seat.new.clusters p w.in-Some.thread w.note_seat.ensures c.loop-cpu.invariant.links;
            seats = one_more_seat old now w.note_seat.new.clusters p w.in-Some.thread w.note_seat.ensures (there_still old now p c.loop-cpu.invariant.kept ∙ sym c.cpu_of.ensures ∙ w.in-Some.is) c.loop-cpu.invariant.seats;
          })
      | in_default w ↦
          rw w.clusters-is
          (record {
            kept = c.loop-cpu.invariant.kept;
            high = omega arith;
            links = c.loop-cpu.invariant.links;
            seats = no_more_seat old now p (there_still old now p c.loop-cpu.invariant.kept ∙ sym c.cpu_of.ensures ∙ none_there c.cpu_of.result w.in_default.not-Some) c.loop-cpu.invariant.seats;
          })
    ]
