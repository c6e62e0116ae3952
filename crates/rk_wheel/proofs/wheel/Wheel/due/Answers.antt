use Rattle.std.proofs.Common.{sym}
use Rattle.rk_wheel.proofs.WheelLemmas.{due_there, armed_there, due_nowhere}
use Rattle.rk_wheel.proofs.wheel.Wheel.due.Goals as goal

pub returns-then-at-timers-clause-value : goal.returns-then-at-timers-clause-value
returns-then-at-timers-clause-value c = due_there c.args.who _ _ _ _ c.index-timers-at.result c.as_slice-timers.ensures c.self.view_is c.position_of-at.ensures c.if-at-timers.true

pub returns-then-at-timers-clause-some : goal.returns-then-at-timers-clause-some
returns-then-at-timers-clause-some c = armed_there c.args.who _ c.self.inside.timers _ _ c.as_slice-timers.ensures c.self.view_is c.position_of-at.ensures c.self.invariant c.if-at-timers.true

pub returns-else-at-timers-clause-value : goal.returns-else-at-timers-clause-value
returns-else-at-timers-clause-value c = sym (due_nowhere c.args.who _ _ _ _ c.as_slice-timers.ensures c.self.view_is c.position_of-at.ensures c.if-at-timers.false).1

pub returns-else-at-timers-clause-none : goal.returns-else-at-timers-clause-none
returns-else-at-timers-clause-none c = (due_nowhere c.args.who _ _ _ _ c.as_slice-timers.ensures c.self.view_is c.position_of-at.ensures c.if-at-timers.false).0
