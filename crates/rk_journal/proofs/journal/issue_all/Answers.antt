use Rattle.std.proofs.Common.{◌≡◌, ap, ◌∙◌, subst, refl, arith, []}
use Rattle.atomic_table.specs.Seated.{TableId}
use Rattle.rk_journal.specs.JournalViews.{MarkView}
use Rattle.rk_journal.specs.MarkRegisters.{AreOf}
use Rattle.rk_journal.specs.JournalRule.{later_keys, writer}
use Rattle.rk_journal.proofs.FirstMarkLemmas.{keys_step, one_more_first}
use Rattle.rk_journal.proofs.journal.issue_all.Goals as goal

pub loop-key-init : goal.loop-key-init
loop-key-init c = (refl, c.requires.view, record { each = λ k h. absurd (omega (arith, h)); no_others = λ k _. c.new-marks.ensures.none k }, c.new-marks.ensures.of c.args.token.now.table_id)

pub loop-key-preserved : goal.loop-key-preserved
loop-key-preserved c =
    let i = c.loop-key.invariant in
    let e = c.issue.ensures in
    let p = c.put.ensures in
    let step = keys_step c.loop-key.key c.loop-key-test.true in
    let keys = ap (λ m. m.0.keys) i.1 ∙ step in
    let list : c.loop-key.token.me.0.list ≡ [] = ap (λ m. m.0.list) i.1 in
    let mark : c.issue.result ≡ record { opening = c.args.token.now.table_id; front = []; key = c.loop-key.key } = e.mark ∙ (λ j. record { opening = i.0 j; front = list j; key = c.loop-key.key }) in (
      e.same ∙ i.0,
      e.view ∙ ap (λ w. (w, [])) (ap (λ l. writer l (later_keys c.loop-key.token.me.0.keys)) list ∙ ap (λ ks. writer [] (later_keys ks)) keys),
      one_more_first c.loop-key.marks c.put.new.self c.args.token.now.table_id c.loop-key.key c.issue.result mark p.marks p.here i.2,
      subst (λ (o : TableId). AreOf o c.loop-key.marks → AreOf o c.put.new.self) (ap (λ (m : MarkView). m.opening) mark) p.of i.3,
    )
