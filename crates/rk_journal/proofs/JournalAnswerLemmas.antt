-- Which answer comes when.
use Rattle.std.proofs.Common.{◌++◌, Option, ◌≡◌, ◌≢◌, ◌==◌, ℕ, List, [], ◌∷◌, length, Bool, true, false, refl, sym, ap, ◌∙◌, arith, if◌then◌else◌}
use Rattle.std.proofs.lemmas.Bool.Decides.{nat_tests}
use Rattle.rk_model.specs.declared.entry.Entry.{Entry}
use Rattle.rk_model.specs.Histories.{ends}
use Rattle.rk_journal.specs.declared.journal.JournalState.TheVariants as state
use Rattle.rk_journal.specs.declared.appending.Appended.TheVariants as did
use Rattle.rk_journal.specs.Logs.{entries_of, noted}
use Rattle.rk_journal.specs.MarkRegisters.{held_keys}
use Rattle.rk_journal.specs.JournalViews.{JournalView, MarkView}
use Rattle.rk_journal.specs.JournalAnswers.{state_of, appended_in, appended_of, log_in, journal_after}
use Rattle.rk_journal.proofs.LogLemmas.{length-entries}

-- what the tests of the entries say of the state

pub state_full : (j : JournalView) (es : List Entry) → es ≡ entries_of j.log → ends es ≡ false → length es ≡ j.limit → state.Full ≡ state_of j
state_full j es is on at =
    let goes : ends (entries_of j.log) ≡ false = ap ends (sym is) ∙ on in
    let len : length es ≡ length j.log = ap length is ∙ length-entries j.log in
    let n : (length j.log == j.limit) ≡ true = grind (arith, nat_tests) in
    rw (goes, n) refl

pub state_open : (j : JournalView) (es : List Entry) → es ≡ entries_of j.log → ends es ≡ false → length es ≢ j.limit → state.Open ≡ state_of j
state_open j es is on at =
    let goes : ends (entries_of j.log) ≡ false = ap ends (sym is) ∙ on in
    let len : length es ≡ length j.log = ap length is ∙ length-entries j.log in
    let n : (length j.log == j.limit) ≡ false = grind (arith, nat_tests) in
    rw (goes, n) refl

-- what the state says of the tests

over_tests : (x y : Bool) → state.Over ≡ (if x then state.Over else (if y then state.Full else state.Open)) → x ≡ true
over_tests true y e = refl
over_tests false true e = absurd cc
over_tests false false e = absurd cc

full_tests : (x y : Bool) → state.Full ≡ (if x then state.Over else (if y then state.Full else state.Open)) → (x ≡ false) × (y ≡ true)
full_tests true y e = absurd cc
full_tests false true e = (refl, refl)
full_tests false false e = absurd cc

open_tests : (x y : Bool) → state.Open ≡ (if x then state.Over else (if y then state.Full else state.Open)) → (x ≡ false) × (y ≡ false)
open_tests true y e = absurd cc
open_tests false true e = absurd cc
open_tests false false e = (refl, refl)

pub over_means : (j : JournalView) → state.Over ≡ state_of j → ends (entries_of j.log) ≡ true
over_means j e = over_tests (ends (entries_of j.log)) (length j.log == j.limit) e

pub full_means : (j : JournalView) → state.Full ≡ state_of j → (ends (entries_of j.log) ≡ false) × ((length j.log == j.limit) ≡ true)
full_means j e = full_tests (ends (entries_of j.log)) (length j.log == j.limit) e

pub open_means : (j : JournalView) → state.Open ≡ state_of j → (ends (entries_of j.log) ≡ false) × ((length j.log == j.limit) ≡ false)
open_means j e = open_tests (ends (entries_of j.log)) (length j.log == j.limit) e

pub has_room : (j : JournalView) → state.Open ≡ state_of j → length j.log ≢ j.limit
has_room j e same = let t = open_means j e in let n = t.1 in grind (arith, nat_tests)

-- what an append does in an open state

pub placed_is : (j : JournalView) (n : ℕ) → n ≡ length j.log → state.Open ≡ state_of j → did.Placed n ≡ appended_of j
placed_is j n is e = ap did.Placed is ∙ ap (λ s. appended_in s (length j.log)) e

pub journal_open : (j : JournalView) (e : Entry) (held : List (Option MarkView)) → state.Open ≡ state_of j → journal_after j e held ≡ record { opening = j.opening; limit = j.limit; log = j.log ++ noted e (held_keys held []) ∷ [] }
journal_open j e held is = λ i. record { opening = j.opening; limit = j.limit; log = log_in (sym is i) j.log (noted e (held_keys held [])) }
