-- A register before and after its marks are renewed: the same marks are in.
use Rattle.std.proofs.Common.{◌≡◌, ◌∙◌, refl, ap, subst, length, ℕ, zero, suc, List, [], ◌∷◌, Option, Some, None}
use Rattle.std.specs.Prelude.{IsSome, IfSome}
use Rattle.rk_journal.specs.declared.views.Noted.{Noted}
use Rattle.rk_journal.specs.Logs.{Quiet}
use Rattle.rk_journal.specs.JournalViews.{MarkView}
use Rattle.rk_journal.specs.MarkRegisters.{mark_at, IsRenewed, AreRenewed, AreInPlace}

each_renewed : (b l : List Noted) (ms ns : List (Option MarkView)) (k : ℕ) → AreRenewed b l ms ns → IsRenewed b l (mark_at ms k) (mark_at ns k)
each_renewed b l [] [] k r = tt
each_renewed b l [] (n ∷ ns) k r = absurd r
each_renewed b l (m ∷ ms) [] k r = absurd r
each_renewed b l (m ∷ ms) (n ∷ ns) zero r = r.0
each_renewed b l (m ∷ ms) (n ∷ ns) (suc k) r = each_renewed b l ms ns k r.1

-- what a mark is when it is renewed
pub record NewMark (before log : List Noted) (m : MarkView) (found : Option MarkView) : Type 0 where
  pub now : MarkView
  pub is : found ≡ Some now
  pub opening : now.opening ≡ m.opening
  pub key : now.key ≡ m.key
  pub front : now.front ≡ log
  pub quiet : Quiet m.key m.front before

new_mark : (b l : List Noted) (m : MarkView) (found : Option MarkView) → IsRenewed b l (Some m) found → NewMark b l m found
new_mark b l m None r = absurd r
new_mark b l m (Some n) r = record { now = n; is = refl; opening = r.0; key = r.1; front = r.2; quiet = r.3 }

pub renewed_at : (b l : List Noted) (ms ns : List (Option MarkView)) (k : ℕ) (m : MarkView) → AreRenewed b l ms ns → mark_at ms k ≡ Some m → NewMark b l m (mark_at ns k)
renewed_at b l ms ns k m r is = new_mark b l m (mark_at ns k) (subst (λ (o : Option MarkView). IsRenewed b l o (mark_at ns k)) is (each_renewed b l ms ns k r))

none_stays : (b l : List Noted) (found : Option MarkView) → IsRenewed b l None found → found ≡ None
none_stays b l None r = refl
none_stays b l (Some n) r = absurd r

pub renewed_none : (b l : List Noted) (ms ns : List (Option MarkView)) (k : ℕ) → AreRenewed b l ms ns → mark_at ms k ≡ None → mark_at ns k ≡ None
renewed_none b l ms ns k r is = none_stays b l (mark_at ns k) (subst (λ (o : Option MarkView). IsRenewed b l o (mark_at ns k)) is (each_renewed b l ms ns k r))

some_stays : (b l : List Noted) (was found : Option MarkView) → IsRenewed b l was found → IsSome was → IsSome found
some_stays b l None found r h = absurd cc
some_stays b l (Some m) None r h = absurd r
some_stays b l (Some m) (Some n) r h = refl

pub renewed_some : (b l : List Noted) (ms ns : List (Option MarkView)) (k : ℕ) → AreRenewed b l ms ns → IsSome (mark_at ms k) → IsSome (mark_at ns k)
renewed_some b l ms ns k r h = some_stays b l (mark_at ms k) (mark_at ns k) (each_renewed b l ms ns k r) h

key_stays : (b l : List Noted) (was found : Option MarkView) (j : ℕ) → IsRenewed b l was found → IfSome was (λ m. m.key ≡ j) → IfSome found (λ m. m.key ≡ j)
key_stays b l None None j r h = tt
key_stays b l None (Some n) j r h = absurd r
key_stays b l (Some m) None j r h = tt
key_stays b l (Some m) (Some n) j r h = r.1 ∙ h

pub still_in_place : (b l : List Noted) (ms ns : List (Option MarkView)) → AreRenewed b l ms ns → AreInPlace ms → AreInPlace ns
still_in_place b l ms ns r h k = key_stays b l (mark_at ms k) (mark_at ns k) k (each_renewed b l ms ns k r) (h k)

pub still_long : (b l : List Noted) (ms ns : List (Option MarkView)) → AreRenewed b l ms ns → length ns ≡ length ms
still_long b l [] [] r = refl
still_long b l [] (n ∷ ns) r = absurd r
still_long b l (m ∷ ms) [] r = absurd r
still_long b l (m ∷ ms) (n ∷ ns) r = ap suc (still_long b l ms ns r.1)
