-- The history in which the least processor always acts, step by step.
use Rattle.std.proofs.Common.{◌≡◌, ℕ, suc, ◌+◌, ◌-◌, ◌<◌, List, [], ◌∷◌, ◌++◌, true, false, cond, Some, arith, refl, ap, append_assoc}
use Rattle.rk_model.specs.declared.entry.Entry.{Entry}
use Rattle.rk_model.specs.declared.entry.What.{What}
use Rattle.rk_model.specs.declared.entry.What.TheVariants.{Call, Return, Tick, End}
use Rattle.rk_model.specs.State.{Plain}
use Rattle.rk_model.specs.Steps.{act, Act}
use Rattle.rk_model.specs.Histories.{lowest_from, lowest_on, turn, is_end}

lowest_suc : (m n : ℕ) (k : Plain) (x : Entry) (next : Plain) → n ≡ suc m → act k (turn k) ≡ Some (let a : Act = record { entry = x; next = next } in a) → lowest_from n k ≡ x ∷ cond (is_end x.what) [] (lowest_from m next)
lowest_suc m n k x next e a = rw e (ap (lowest_on (lowest_from m)) a)

-- the run so far goes on by one entry, which isn't the last
pub lowest_goes_on : (done all : List Entry) (i n : ℕ) (k : Plain) (x : Entry) (next : Plain) → i < n → act k (turn k) ≡ Some (let a : Act = record { entry = x; next = next } in a) → is_end x.what ≡ false → done ++ lowest_from (n - i) k ≡ all → (done ++ x ∷ []) ++ lowest_from (n - (i + 1)) next ≡ all
lowest_goes_on done all i n k x next h a more so_far =
    let e = lowest_suc (n - (i + 1)) (n - i) k x next (omega arith) a in
    rw append_assoc (rw (e, more) at so_far)

-- the run so far ends with one entry
pub lowest_ends : (done all : List Entry) (i n : ℕ) (k : Plain) (x : Entry) (next : Plain) → i < n → act k (turn k) ≡ Some (let a : Act = record { entry = x; next = next } in a) → is_end x.what ≡ true → done ++ lowest_from (n - i) k ≡ all → done ++ x ∷ [] ≡ all
lowest_ends done all i n k x next h a last so_far =
    let e = lowest_suc (n - (i + 1)) (n - i) k x next (omega arith) a in
    rw (e, last) at so_far

pub not_end : (w : What) → (w ≡ End → ⊥) → is_end w ≡ false
not_end Call h = refl
not_end Return h = refl
not_end Tick h = refl
not_end End h = absurd (h refl)
