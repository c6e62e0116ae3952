-- What an input says of a source that tells its bytes.
use Rattle.std.proofs.Common.{◌≡◌, ℕ, ◌+◌, ◌<◌, ◌≤◌, List, ◌++◌, take, length, length-append, Bool, true, false, Option, Some, None, refl, sym, ap, ◌∙◌, arith}
use Rattle.std.proofs.lemmas.List.{append-nil}
use Rattle.std.proofs.Math.Seq.{take-append_seam}
use Rattle.rk_io.specs.declared.source.Input.{Input}
use Rattle.rk_io.specs.Bytes.{Consumes, IsUsedUp}
use Rattle.rk_io.specs.WholeInput.{HasRead, IsWhole}

-- an input of at most so many bytes reaches to the end
pub small_is_whole : (whole : Bool) (before now : Option (List ℕ)) (most : ℕ) (bytes : List ℕ) → length bytes ≤ most → IsWhole whole before now most bytes → (whole ≡ true) × IsUsedUp before now
small_is_whole true before now most bytes small w = (refl, w.1)
small_is_whole false before now most bytes small w = absurd (omega arith)

-- a source that is used up had just these bytes
pub used_up_had : (before : List ℕ) (now : Option (List ℕ)) (bytes : List ℕ) → Consumes (Some before) now bytes → IsUsedUp (Some before) now → before ≡ bytes
used_up_had before None bytes h end = absurd h
used_up_had before (Some now) bytes h end = h ∙ ap (λ w. bytes ++ w) end ∙ append-nil bytes

fits : (whole : Bool) (before : List ℕ) (now : Option (List ℕ)) (most : ℕ) (bytes : List ℕ) → Consumes (Some before) now bytes → IsWhole whole (Some before) now most bytes → length before ≤ most → (whole ≡ true) × (before ≡ bytes)
fits true before now most bytes h w small = (refl, used_up_had before now bytes h w.1)
fits false before None most bytes h w small = absurd h
fits false before (Some now) most bytes h w small = absurd (omega (arith, ap length h, length-append bytes now))

cut : (whole : Bool) (before : List ℕ) (now : Option (List ℕ)) (most : ℕ) (bytes : List ℕ) → Consumes (Some before) now bytes → IsWhole whole (Some before) now most bytes → most < length before → (whole ≡ false) × (bytes ≡ take (most + 1) before)
cut true before now most bytes h w large = absurd (omega (arith, ap length (used_up_had before now bytes h w.1), w.0))
cut false before None most bytes h w large = absurd h
cut false before (Some now) most bytes h w large = (refl, rw (h, ← w) (sym (take-append_seam bytes now)))

-- a source that had at most so many bytes is read whole
pub fitting_is_whole : (before : List ℕ) (now : Option (List ℕ)) (most : ℕ) (input : Input) → HasRead (Some before) now most input → length before ≤ most → (input.whole ≡ true) × (before ≡ input.bytes.items)
fitting_is_whole before now most input read small = fits input.whole before now most input.bytes.items read.bytes read.whole small

-- of a source that had more than so many bytes an input has one more than those
pub larger_is_cut : (before : List ℕ) (now : Option (List ℕ)) (most : ℕ) (input : Input) → HasRead (Some before) now most input → most < length before → (input.whole ≡ false) × (input.bytes.items ≡ take (most + 1) before)
larger_is_cut before now most input read large = cut input.whole before now most input.bytes.items read.bytes read.whole large
