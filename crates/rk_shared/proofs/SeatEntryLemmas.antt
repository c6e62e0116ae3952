-- The entries of a seat in a log whose entries were appended under their keys.
use Rattle.std.proofs.Common.{◌≡◌, ◌≢◌, ◌==◌, ◌∙◌, ◌<◌, refl, sym, ap, subst, arith, ℕ, List, [], ◌∷◌, ◌++◌, false}
use Rattle.std.proofs.lemmas.List.{append-nil}
use Rattle.std.proofs.lemmas.List.Elements.{filter-append}
use Rattle.std.proofs.lemmas.Bool.Decides.{nat_tests}
use mathlib.Core.List.{IsPrefix}
use Rattle.rk_model.specs.declared.entry.Entry.{Entry}
use Rattle.rk_model.specs.Lists.{times}
use Rattle.rk_model.specs.Histories.{of}
use Rattle.rk_journal.specs.declared.views.Noted.{Noted}
use Rattle.rk_model.specs.Keys.{keys, seat_key}
use Rattle.rk_journal.specs.Logs.{uses, Quiet, entries_of}
use Rattle.rk_journal.proofs.LogLemmas.{entries-append}
use Rattle.rk_shared.specs.KeyedLogs.{IsKeyed, AreKeyed}

keyed_drop : (xs ys : List Noted) → AreKeyed (xs ++ ys) → AreKeyed ys
keyed_drop [] ys h = h
keyed_drop (x ∷ xs) ys h = keyed_drop xs ys h.1

pub keyed_push : (xs : List Noted) (x : Noted) → AreKeyed xs → IsKeyed x → AreKeyed (xs ++ x ∷ [])
keyed_push [] x h is = (is, tt)
keyed_push (y ∷ xs) x h is = (h.0, keyed_push xs x h.1 is)

has_own : (e : Entry) (q : ℕ) → e.seat ≡ q → 0 < times (seat_key q) (keys e)
has_own e q same = grind (arith, nat_tests)

pub of-append : (xs ys : List Entry) (q : ℕ) → of (xs ++ ys) q ≡ of xs q ++ of ys q
of-append xs ys q = filter-append (λ (x : Entry). x.seat == q) xs ys

-- where no entry has the key of a seat, none is of the seat
none_of : (q : ℕ) (xs : List Noted) → AreKeyed xs → uses (seat_key q) xs ≡ 0 → of (entries_of xs) q ≡ []
none_of q [] h u = refl
none_of q (x ∷ xs) h u =
    let rest = none_of q xs h.1 (omega (arith, u)) in
    let apart : x.entry.seat ≢ q = λ e. let has = has_own x.entry q e in let is = h.0 (seat_key q) in omega (arith, has, is, u) in
    let off : (x.entry.seat == q) ≡ false = grind (arith, nat_tests) in
    rw off rest

-- where no entry after the front has the key of a seat, none after it is of the seat
pub quiet_own : (q : ℕ) (front log : List Noted) → AreKeyed log → Quiet (seat_key q) front log → of (entries_of log) q ≡ of (entries_of front) q
quiet_own q front log keyed quiet =
    let rest = quiet.0 in
    let whole : entries_of log ≡ entries_of front ++ entries_of rest = ap entries_of (sym quiet.1) ∙ entries-append front rest in
    let behind : AreKeyed rest = keyed_drop front rest (subst AreKeyed (sym quiet.1) keyed) in
    ap (λ es. of es q) whole ∙ (of-append (entries_of front) (entries_of rest) q ∙ (ap (λ es. of (entries_of front) q ++ es) (none_of q rest behind quiet.2) ∙ append-nil (of (entries_of front) q)))

pub quiet_begins : (k : ℕ) (front log : List Noted) → Quiet k front log → IsPrefix (entries_of front) (entries_of log)
quiet_begins k front log quiet = (entries_of quiet.0, sym (entries-append front quiet.0) ∙ ap entries_of quiet.1)
