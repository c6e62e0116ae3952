use Rattle.std.proofs.Common.{◌≡◌, ap, sym, ◌∙◌, [], Some, arith}
use Rattle.rk_journal.specs.MarkRegisters.{mark_at, held_keys}
use Rattle.rk_journal.proofs.RenewedMarkLemmas.{renewed_at}
use Rattle.rk_journal.proofs.JournalAnswerLemmas.{journal_open}
use Rattle.rk_shared.proofs.PartMarkLemmas.{keyed_by_marks, parts_again}
use Rattle.rk_shared.proofs.placing.place.Goals as goal

pub put-requires : goal.put-requires
put-requires c = c.requires.parts.seats_out c.args.mark.key (omega (arith, c.requires.key))

pub unreachable-requires : goal.unreachable-requires
unreachable-requires c =
    let new = renewed_at c.args.journal.now.log c.append.new.journal.log c.put.new.self c.append.new.held c.args.mark.key c.args.mark c.append.ensures.marks c.put.ensures.here in
    let at : mark_at c.append.new.held c.key-key.result ≡ Some new.now = ap (mark_at c.append.new.held) c.key-key.ensures.key ∙ new.is in
    cc (c.in_default.is, c.take.ensures.mark, at)

pub returns-clause-journal : goal.returns-clause-journal
returns-clause-journal c = record {
  keys = held_keys c.put.new.self [];
  keyed = keyed_by_marks c.args.entry (held_keys c.put.new.self []) c.args.marks.now c.put.new.self c.args.mark c.requires.parts c.append.ensures.keys (ap (mark_at c.put.new.self) (sym c.requires.key) ∙ c.put.ensures.here) (λ k ne. c.put.ensures.others k (λ e. ne (e ∙ c.requires.key)));
  is = c.append.ensures.journal ∙ journal_open c.args.journal.now c.args.entry c.put.new.self (sym c.requires.open);
}

pub returns-clause-parts : goal.returns-clause-parts
returns-clause-parts c =
    parts_again c.args.marks.now c.put.new.self c.append.new.held c.take.new.self c.args.mark.key c.requires.parts (omega (arith, c.requires.key)) c.put.ensures.others c.append.ensures.there c.append.ensures.no_others
    (ap (mark_at c.take.new.self) (sym c.key-key.ensures.key) ∙ c.take.ensures.gone) (λ k ne. c.take.ensures.others k (λ e. ne (e ∙ c.key-key.ensures.key)))

pub returns-clause-mark : goal.returns-clause-mark
returns-clause-mark c =
    let new = renewed_at c.args.journal.now.log c.append.new.journal.log c.put.new.self c.append.new.held c.args.mark.key c.args.mark c.append.ensures.marks c.put.ensures.here in
    let at : mark_at c.append.new.held c.key-key.result ≡ Some new.now = ap (mark_at c.append.new.held) c.key-key.ensures.key ∙ new.is in
    let same : c.in-Some.mark ≡ new.now = cc (c.in-Some.is, c.take.ensures.mark, at) in
    same ∙ (λ i. record { opening = new.opening i; front = new.front i; key = new.key i })

pub returns-clause-opening : goal.returns-clause-opening
returns-clause-opening c = c.take.ensures.of c.args.journal.now.opening c.append.ensures.of
