use Rattle.rk_schedule.proofs.ReadingLemmas.{history_read, refusal_read, only_read, fault_read}
use Rattle.rk_schedule.proofs.reading.read_schedule.Goals as goal

pub returns-clause-history : goal.returns-clause-history
returns-clause-history c = history_read c.args.scenario.now c.args.bytes.now _ c.requires.valid c.read_opened.ensures

pub returns-clause-refused : goal.returns-clause-refused
returns-clause-refused c = refusal_read c.args.scenario.now c.args.bytes.now _ c.requires.valid c.read_opened.ensures

pub returns-clause-only : goal.returns-clause-only
returns-clause-only c = only_read c.args.scenario.now c.args.bytes.now _ c.requires.valid c.read_opened.ensures

pub returns-clause-fault : goal.returns-clause-fault
returns-clause-fault c = fault_read c.args.scenario.now c.args.bytes.now _ c.requires.valid c.read_opened.ensures
