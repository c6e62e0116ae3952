use Rattle.std.proofs.Common.{rules, arith}
use Rattle.rk_parts.proofs.MarkLemmas.{room_to_mark, apart_marked, marks_more}
use Rattle.rk_parts.proofs.holdings.note_change.Goals as goal

pub push-requires : goal.push-requires
push-requires c = (omega arith, room_to_mark c.args.changed.now c.args.index c.requires.apart (search rules) c.requires.low c.requires.high)

pub returns-then-not-is_listed-clause-apart : goal.returns-then-not-is_listed-clause-apart
returns-then-not-is_listed-clause-apart c = apart_marked c.args.changed.now c.push.new.self c.args.index c.requires.apart (search rules) c.requires.low c.requires.high c.push.ensures

pub returns-then-not-is_listed-clause-marks : goal.returns-then-not-is_listed-clause-marks
returns-then-not-is_listed-clause-marks c = marks_more c.args.changed.now c.push.new.self c.args.index c.push.ensures
