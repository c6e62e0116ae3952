use Rattle.std.proofs.Common.{ap, sym, ◌∙◌}
use Rattle.rk_journal.specs.Logs.{entries_of}
use Rattle.rk_journal.proofs.JournalAnswerLemmas.{state_full, state_open}
use Rattle.rk_journal.proofs.journal.Journal.state.Goals as goal

pub returns-then-entries-self-clause-state : goal.returns-then-entries-self-clause-state
returns-then-entries-self-clause-state c =
    let v = c.self.view_is in
    state_full c.args.self.now c.entries-entries.result.now (c.entries-entries.ensures ∙ (c.self.invariant.4 ∙ ap (λ b. entries_of b.log) v)) (sym c.ends_with_end.ensures ∙ c.if-ends_with_end.false) (c.if-entries-self.true ∙ ap (λ b. b.limit) v)

pub returns-else-entries-self-clause-state : goal.returns-else-entries-self-clause-state
returns-else-entries-self-clause-state c =
    let v = c.self.view_is in
    state_open c.args.self.now c.entries-entries.result.now (c.entries-entries.ensures ∙ (c.self.invariant.4 ∙ ap (λ b. entries_of b.log) v)) (sym c.ends_with_end.ensures ∙ c.if-ends_with_end.false) (λ e. c.if-entries-self.false (e ∙ sym (ap (λ b. b.limit) v)))
