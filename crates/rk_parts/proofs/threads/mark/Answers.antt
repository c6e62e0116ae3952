use Rattle.std.proofs.Common.{rules, arith}
use Rattle.rk_parts.proofs.MarkLemmas.{room_to_mark, apart_marked, marks_more}
use Rattle.rk_parts.proofs.threads.mark.Goals as goal

pub push-requires : goal.push-requires
push-requires c = (omega arith, room_to_mark c.args.marked.now c.args.thread c.requires (search rules) (omega arith) (omega arith))

pub returns-then-not-is_marked-clause-apart : goal.returns-then-not-is_marked-clause-apart
returns-then-not-is_marked-clause-apart c = apart_marked c.args.marked.now c.push.new.self c.args.thread c.requires (search rules) (omega arith) (omega arith) c.push.ensures

pub returns-then-not-is_marked-clause-marks : goal.returns-then-not-is_marked-clause-marks
returns-then-not-is_marked-clause-marks c = marks_more c.args.marked.now c.push.new.self c.args.thread c.push.ensures
