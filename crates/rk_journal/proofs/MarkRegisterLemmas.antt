-- A register where a mark is put in or taken out.
use Rattle.std.proofs.Common.{◌≡◌, ◌≢◌, get_or-set_other, set, ℕ, zero, suc, List, [], ◌∷◌, Option, Some, None}
use Rattle.std.specs.Prelude.{IfSome}
use Rattle.atomic_table.specs.Seated.{TableId}
use Rattle.rk_journal.specs.JournalViews.{MarkView}
use Rattle.rk_journal.specs.MarkRegisters.{mark_at, AreOf}

-- the others stay
pub others_kept : (ms : List (Option MarkView)) (j k : ℕ) (m : Option MarkView) → k ≢ j → mark_at (set ms j m) k ≡ mark_at ms k
others_kept ms j k m ne = get_or-set_other ms j k m None ne

pub one_of_all : (o : TableId) (ms : List (Option MarkView)) (k : ℕ) → AreOf o ms → IfSome (mark_at ms k) (λ m. m.opening ≡ o)
one_of_all o [] k h = tt
one_of_all o (Some x ∷ ms) zero h = h.0
one_of_all o (None ∷ ms) zero h = tt
one_of_all o (Some x ∷ ms) (suc k) h = one_of_all o ms k h.1
one_of_all o (None ∷ ms) (suc k) h = one_of_all o ms k h

pub all_put : (o : TableId) (ms : List (Option MarkView)) (k : ℕ) (m : MarkView) → m.opening ≡ o → AreOf o ms → AreOf o (set ms k (Some m))
all_put o [] k m e h = tt
all_put o (Some x ∷ ms) zero m e h = (e, h.1)
all_put o (None ∷ ms) zero m e h = (e, h)
all_put o (Some x ∷ ms) (suc k) m e h = (h.0, all_put o ms k m e h.1)
all_put o (None ∷ ms) (suc k) m e h = all_put o ms k m e h

pub all_taken : (o : TableId) (ms : List (Option MarkView)) (k : ℕ) → AreOf o ms → AreOf o (set ms k None)
all_taken o [] k h = tt
all_taken o (Some x ∷ ms) zero h = h.1
all_taken o (None ∷ ms) zero h = h
all_taken o (Some x ∷ ms) (suc k) h = (h.0, all_taken o ms k h.1)
all_taken o (None ∷ ms) (suc k) h = all_taken o ms k h
