use Rattle.std.proofs.Common.{◌≡◌, ◌+◌, ap, sym, subst, ◌∙◌, arith, length, length-append, List, [], ◌∷◌, ◌++◌, Option, None}
use Rattle.std.specs.Prelude.{IsSome}
use Rattle.rk_journal.specs.JournalViews.{MarkView}
use Rattle.rk_journal.specs.Logs.{entries_of, noted}
use Rattle.rk_journal.specs.MarkRegisters.{held_keys, mark_at, AreKeysOf}
use Rattle.rk_journal.specs.JournalRule.{writer}
use Rattle.rk_journal.proofs.HeldKeyLemmas.{keys_of_held}
use Rattle.rk_journal.proofs.LogLemmas.{entries-append}
use Rattle.rk_journal.proofs.RenewedMarkLemmas.{renewed_none, renewed_some, still_in_place, still_long}
use Rattle.rk_journal.proofs.JournalAnswerLemmas.{has_room, placed_is}
use Rattle.rk_journal.proofs.appending.append.Goals as goal

pub invariant_of-held : goal.invariant_of-held
invariant_of-held c = let r = c.renew.ensures.marks in (still_long _ _ _ _ r ∙ c.held.invariant.0, still_in_place _ _ _ _ r c.held.invariant.1)

pub invariant_of-held-in-Full : goal.invariant_of-held-in-Full
invariant_of-held-in-Full c = let r = c.renew-in-Full.ensures.marks in (still_long _ _ _ _ r ∙ c.held.invariant.0, still_in_place _ _ _ _ r c.held.invariant.1)

pub invariant_of-held-in-Open : goal.invariant_of-held-in-Open
invariant_of-held-in-Open c = let r = c.renew-in-Open.ensures.marks in (still_long _ _ _ _ r ∙ c.held.invariant.0, still_in_place _ _ _ _ r c.held.invariant.1)

pub invariant_of-journal-in-Open : goal.invariant_of-journal-in-Open
invariant_of-journal-in-Open c =
    let i = c.journal.invariant in
    let v = c.journal.view_is in
    let log = c.journal.inside.token.me.0.list in
    let new = noted c.args.entry (held_keys c.held.inside.slots []) in
    let none : c.journal.inside.token.me.0.keys ≡ [] = ap (λ m. m.0.keys) i.3 in
    let t = c.renew-in-Open.ensures in
    let list : c.renew-in-Open.new.token.me.0.list ≡ log ++ new ∷ [] = ap (λ m. m.0.list) t.view ∙ ap (λ ks. log ++ noted c.args.entry (held_keys c.held.inside.slots ks) ∷ []) none in
    let room = has_room c.args.journal.now c.in-Open.ensures.state in
    let limit : c.journal.inside.limit ≡ c.args.journal.now.limit = ap (λ b. b.limit) v in
    let len : length log ≡ length c.args.journal.now.log = ap (λ b. length b.log) v in
    let longer : length c.renew-in-Open.new.token.me.0.list ≡ length log + 1 = ap length list ∙ length-append log (new ∷ []) in (
      t.same ∙ i.0,
      i.1,
      i.2,
      t.view ∙ ap (λ w. (w, [])) (ap (writer _) none ∙ ap (λ l. writer l []) (sym (ap (λ m. m.0.list) t.view))),
      c.push.ensures.entries ∙ (ap (λ es. es ++ c.args.entry ∷ []) i.4 ∙ (sym (entries-append log (new ∷ [])) ∙ ap entries_of (sym list))),
      omega (arith, longer, i.5, limit, len, room),
      omega (arith, longer, i.6, c.push.ensures.room),
    )

pub returns-in-Open-clause-answer : goal.returns-in-Open-clause-answer
returns-in-Open-clause-answer c = placed_is c.args.journal.now c.count-at.result c.count-at.ensures.count c.in-Open.ensures.state

pub returns-in-Over-clause-there : goal.returns-in-Over-clause-there
returns-in-Over-clause-there c k h = renewed_some _ _ c.held.inside.slots _ k c.renew.ensures.marks (subst (λ (l : List (Option MarkView)). IsSome (mark_at l k)) (sym c.held.view_is) h)

pub returns-in-Over-clause-no_others : goal.returns-in-Over-clause-no_others
returns-in-Over-clause-no_others c k h = renewed_none _ _ c.held.inside.slots _ k c.renew.ensures.marks (subst (λ (l : List (Option MarkView)). mark_at l k ≡ None) (sym c.held.view_is) h)

pub returns-in-Full-clause-there : goal.returns-in-Full-clause-there
returns-in-Full-clause-there c k h = renewed_some _ _ c.held.inside.slots _ k c.renew-in-Full.ensures.marks (subst (λ (l : List (Option MarkView)). IsSome (mark_at l k)) (sym c.held.view_is) h)

pub returns-in-Full-clause-no_others : goal.returns-in-Full-clause-no_others
returns-in-Full-clause-no_others c k h = renewed_none _ _ c.held.inside.slots _ k c.renew-in-Full.ensures.marks (subst (λ (l : List (Option MarkView)). mark_at l k ≡ None) (sym c.held.view_is) h)

pub returns-in-Open-clause-there : goal.returns-in-Open-clause-there
returns-in-Open-clause-there c k h = renewed_some _ _ c.held.inside.slots _ k c.renew-in-Open.ensures.marks (subst (λ (l : List (Option MarkView)). IsSome (mark_at l k)) (sym c.held.view_is) h)

pub returns-in-Open-clause-no_others : goal.returns-in-Open-clause-no_others
returns-in-Open-clause-no_others c k h = renewed_none _ _ c.held.inside.slots _ k c.renew-in-Open.ensures.marks (subst (λ (l : List (Option MarkView)). mark_at l k ≡ None) (sym c.held.view_is) h)

pub returns-in-Over-clause-keys : goal.returns-in-Over-clause-keys
returns-in-Over-clause-keys c = subst (λ (l : List (Option MarkView)). AreKeysOf l (held_keys l [])) c.held.view_is (keys_of_held c.held.inside.slots c.held.invariant.1)

pub returns-in-Full-clause-keys : goal.returns-in-Full-clause-keys
returns-in-Full-clause-keys c = subst (λ (l : List (Option MarkView)). AreKeysOf l (held_keys l [])) c.held.view_is (keys_of_held c.held.inside.slots c.held.invariant.1)

pub returns-in-Open-clause-keys : goal.returns-in-Open-clause-keys
returns-in-Open-clause-keys c = subst (λ (l : List (Option MarkView)). AreKeysOf l (held_keys l [])) c.held.view_is (keys_of_held c.held.inside.slots c.held.invariant.1)
