-- Marks that are issued key by key.
use Rattle.std.proofs.Common.{Option, Some, None, set, below_more, get_or-set_other, ◌≡◌, ◌≢◌, ◌<◌, ◌+◌, ◌-◌, ℕ, suc, List, [], ◌∷◌, sym, ap, ◌∙◌, arith}
use Rattle.atomic_table.specs.Seated.{TableId}
use Rattle.rk_model.specs.declared.keys.TheConstants.{KEYS}
use Rattle.rk_model.specs.Keys.{keys_from}
use Rattle.rk_journal.specs.JournalViews.{MarkView}
use Rattle.rk_journal.specs.MarkRegisters.{mark_at, AreFirst}

-- the first of the keys that are left, and the others
pub keys_step : (k : ℕ) → k < KEYS → keys_from k (KEYS - k) ≡ k ∷ keys_from (k + 1) (KEYS - (k + 1))
keys_step k h =
    let n : KEYS - k ≡ suc (KEYS - (k + 1)) = omega arith in
    let m : suc k ≡ k + 1 = omega arith in
    ap (keys_from k) n ∙ ap (λ (j : ℕ). k ∷ keys_from j (KEYS - (k + 1))) m

-- one more mark is in
pub one_more_first : (held now : List (Option MarkView)) (opening : TableId) (n : ℕ) (m : MarkView) → m ≡ record { opening = opening; front = []; key = n } → now ≡ set held m.key (Some m) → mark_at now m.key ≡ Some m
    → AreFirst opening n held → AreFirst opening (n + 1) now
one_more_first held now opening n m is put here first =
    let key : m.key ≡ n = ap (λ (x : MarkView). x.key) is in
    record {
      each = below_more _ _
          (λ k h. let ne : k ≢ m.key = omega (arith, h, key) in ap (λ l. mark_at l k) put ∙ (get_or-set_other held m.key k (Some m) None ne ∙ first.each k h))
          (ap (mark_at now) (sym key) ∙ (here ∙ ap Some is));
      no_others = λ k h. let ne : k ≢ m.key = omega (arith, h, key) in ap (λ l. mark_at l k) put ∙ (get_or-set_other held m.key k (Some m) None ne ∙ first.no_others k (omega (arith, h)));
    }
