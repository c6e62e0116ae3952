use Rattle.std.proofs.Common.{◌≡◌, ◌-◌, []}
use Rattle.rk_model.specs.declared.keys.TheConstants.{KEYS}
use Rattle.rk_model.specs.Keys.{keys_from}
use Rattle.rk_journal.specs.Tokens.{IsWriter}
use Rattle.rk_journal.specs.MarkRegisters.{AreFirst, AreOf}
use Rattle.rk_journal.proofs.journal.issue_all.Given as goal

abbrev pub invariant-loop-key : goal.invariant-loop-key
invariant-loop-key l = (l.token.table_id ≡ l.initial.token.table_id) × IsWriter l.token [] (keys_from l.key (KEYS - l.key)) × AreFirst l.initial.token.table_id l.key l.marks × AreOf l.initial.token.table_id l.marks
