-- Keys in lists of entries, and beginnings of histories.
use Rattle.std.proofs.Common.{◌≡◌, ℕ, suc, ◌+◌, List, [], ◌∷◌, ◌++◌, length, refl, sym, ap, ◌∙◌, subst, arith, append_assoc}
use mathlib.Core.List.{IsPrefix}
use Rattle.std.proofs.lemmas.List.{append-nil}
use Rattle.rk_journal.specs.declared.views.Noted.{Noted}
use Rattle.rk_model.specs.Lists.{times}
use Rattle.rk_journal.specs.Logs.{uses, Quiet, entries_of}

pub uses-append : (k : ℕ) (xs ys : List Noted) → uses k (xs ++ ys) ≡ uses k xs + uses k ys
uses-append k [] ys = omega arith
uses-append k (x ∷ xs) ys = let e = uses-append k xs ys in omega (arith, e)

pub entries-append : (xs ys : List Noted) → entries_of (xs ++ ys) ≡ entries_of xs ++ entries_of ys
entries-append [] ys = refl
entries-append (x ∷ xs) ys = ap (λ es. x.entry ∷ es) (entries-append xs ys)

pub length-entries : (xs : List Noted) → length (entries_of xs) ≡ length xs
length-entries [] = refl
length-entries (x ∷ xs) = ap suc (length-entries xs)

-- beginnings
pub prefix_self : (xs : List Noted) → IsPrefix xs xs
prefix_self xs = ([], append-nil xs)

pub prefix_more : (xs ys zs : List Noted) → IsPrefix xs ys → IsPrefix xs (ys ++ zs)
prefix_more xs ys zs p = (p.0 ++ zs, sym (append_assoc xs p.0 zs) ∙ ap (λ w. w ++ zs) p.1)

pub quiet_self : (k : ℕ) (xs : List Noted) → Quiet k xs xs
quiet_self k xs = ([], append-nil xs, refl)

pub quiet_at : (k : ℕ) (xs ys : List Noted) → xs ≡ ys → Quiet k xs ys
quiet_at k xs ys e = subst (λ (zs : List Noted). Quiet k xs zs) e (quiet_self k xs)

pub quiet_more : (k : ℕ) (xs ys : List Noted) (e : Noted) → times k e.keys ≡ 0 → Quiet k xs ys → Quiet k xs (ys ++ e ∷ [])
quiet_more k xs ys e none q = (q.0 ++ e ∷ [], sym (append_assoc xs q.0 (e ∷ [])) ∙ ap (λ w. w ++ e ∷ []) q.1, omega (arith, uses-append k q.0 (e ∷ []), q.2, none))
