-- The marks of the nine parts, with and without a seat's.
use Rattle.std.proofs.Common.{◌≡◌, ◌≢◌, ◌∙◌, ◌<◌, ◌≤◌, refl, sym, ap, subst, arith, ℕ, List, cond, Option, Some, None, is_none}
use Rattle.std.proofs.lemmas.Bool.Decides.{nat_tests}
use Rattle.std.specs.Prelude.{IsSome}
use mathlib.Core.Logic.{dite}
use native.Mathlib.Decide.{dec_lt, ℕ_discrete}
use Rattle.rk_model.specs.Lists.{times}
use Rattle.rk_model.specs.declared.entry.Entry.{Entry}
use Rattle.rk_model.specs.Keys.{keys, touches, seat_key}
use Rattle.rk_journal.specs.Logs.{noted}
use Rattle.rk_journal.specs.JournalViews.{MarkView}
use Rattle.rk_journal.specs.MarkRegisters.{mark_at, AreKeysOf}
use Rattle.rk_shared.specs.KeyedLogs.{IsKeyed}
use Rattle.rk_shared.specs.Keeps.{AreOfParts}

touched : (e : Entry) (k : ℕ) → k < 9 → times k (touches e) ≡ 1
touched e k h = grind (arith, nat_tests, h)

untouched : (e : Entry) (k : ℕ) → 9 ≤ k → times k (touches e) ≡ 0
untouched e k h = grind (arith, nat_tests, h)

some_count : (x : Option MarkView) → IsSome x → ◌≡◌ {A = ℕ} (cond (is_none x) 0 1) 1
some_count (Some m) h = refl
some_count None h = let no : ⊥ = cc (h) in absurd no

none_count : (x : Option MarkView) → x ≡ None → ◌≡◌ {A = ℕ} (cond (is_none x) 0 1) 0
none_count x h = rw h refl

-- the keys of the marks of all parts and of a seat are those of an entry of the seat
pub keyed_by_marks : (e : Entry) (ks : List ℕ) (parts held : List (Option MarkView)) (m : MarkView) → AreOfParts parts → AreKeysOf held ks → mark_at held (seat_key e.seat) ≡ Some m
    → ((k : ℕ) → k ≢ seat_key e.seat → mark_at held k ≡ mark_at parts k) → IsKeyed (noted e ks)
keyed_by_marks e ks parts held m in_parts are here others k = dite (ℕ_discrete k (seat_key e.seat))
    (λ same.
    let one : times k ks ≡ 1 = are k ∙ some_count (mark_at held k) (subst (λ (x : Option MarkView). IsSome x) (sym (ap (mark_at held) same ∙ here)) refl) in
    let none = untouched e k (omega (arith, same)) in
    let own : times k (keys e) ≡ 1 = grind (arith, nat_tests, same, none) in
    one ∙ sym own)
    (λ other.
    let apart : times k (keys e) ≡ times k (touches e) = grind (arith, nat_tests, other) in
    dite (dec_lt k 9)
    (λ h.
    let one : times k ks ≡ 1 = are k ∙ some_count (mark_at held k) (subst (λ (x : Option MarkView). IsSome x) (sym (others k other)) (in_parts.parts_in k h)) in
    one ∙ (sym (touched e k h) ∙ sym apart))
    (λ h.
    let high : 9 ≤ k = omega (arith, h) in
    let none : times k ks ≡ 0 = are k ∙ none_count (mark_at held k) (others k other ∙ in_parts.seats_out k high) in
    none ∙ (sym (untouched e k high) ∙ sym apart)))

-- without the seat's mark the register has the marks of the parts again
pub parts_again : (parts held given left : List (Option MarkView)) (key : ℕ) → AreOfParts parts → 9 ≤ key → ((k : ℕ) → k ≢ key → mark_at held k ≡ mark_at parts k)
    → ((k : ℕ) → IsSome (mark_at held k) → IsSome (mark_at given k)) → ((k : ℕ) → mark_at held k ≡ None → mark_at given k ≡ None)
    → mark_at left key ≡ None → ((k : ℕ) → k ≢ key → mark_at left k ≡ mark_at given k) → AreOfParts left
parts_again parts held given left key in_parts high before there none gone after = record {
  parts_in = λ k h.
      let ne : k ≢ key = omega (arith, h, high) in
      subst (λ (x : Option MarkView). IsSome x) (sym (after k ne)) (there k (subst (λ (x : Option MarkView). IsSome x) (sym (before k ne)) (in_parts.parts_in k h)));
  seats_out = λ k h. dite (ℕ_discrete k key)
      (λ e. ap (mark_at left) e ∙ gone)
      (λ ne. after k ne ∙ none k (before k ne ∙ in_parts.seats_out k h));
}
