-- The words of the lines of a schedule: none has a space, and each is of its form, where its number has at most 64 digits.
use Rattle.std.proofs.Common.{◌≡◌, ℕ, List, [], ◌∷◌, ◌++◌, Bool, true, false, not, ◌&&◌, Option, Some, None, length, arith, refl, sym, ap, ◌∙◌, append_assoc, append-nil}
use Rattle.std.specs.Prelude.{◌==◌, nat_le}
use Rattle.std.specs.List.{list_all}
use Rattle.std.specs.Str.{bytes_eq}
use Rattle.std.specs.Fmt.{decimal, digits}
use Rattle.std.proofs.lemmas.Bool.{false≢true}
use Rattle.std.proofs.lemmas.Bool.Decides.{nat_tests}
use Rattle.rk_model.specs.declared.scenario.Op.{Op}
use Rattle.rk_model.specs.declared.scenario.Op.TheVariants.{Work, Goto}
use Rattle.rk_model.specs.declared.status.Status.{Status}
use Rattle.rk_model.specs.declared.status.Status.TheVariants.{Successful, TaskExitted, InvalidName, InvalidId, TooMany, Timeout, ObjectWasDeleted, InvalidSize, InvalidAddress, InvalidNumber, NotDefined, ResourceInUse, Unsatisfied, IncorrectState, AlreadySuspended, InvalidPriority, NotOwnerOfResource, Waits}
use Rattle.rk_model.specs.Status.{status_code}
use Rattle.rk_model.specs.Text.Words.{is_digit, is_lower, is_body_byte, is_body_name}
use Rattle.rk_model.specs.Text.Forms.{word_of, form_in}
use Rattle.rk_model.specs.Text.Schedules.{exit_word, first_word, is_directive}
use Rattle.rk_model.specs.Text.ScheduleForms.{is_decimal, is_hex_digit, is_hexadecimal, is_lettered, is_place_from, is_place, is_directive_form, is_directive_word, is_status}
use Rattle.rk_model.proofs.BooleanLemmas.{and_front, and_back, or_front, or_back}
use Rattle.rk_schedule.proofs.NumeralLemmas.{all_pass, decimal_digits, hexadecimal_digits}
use Rattle.rk_schedule.proofs.SpacedLemmas.{is_solid}

-- ---- words without spaces

digit_solid : (b : ℕ) → is_digit b ≡ true → not (b == 32) ≡ true
digit_solid b is = grind (arith, nat_tests, is)

hex_digit_solid : (b : ℕ) → is_hex_digit b ≡ true → not (b == 32) ≡ true
hex_digit_solid b is = grind (arith, nat_tests, is)

body_byte_solid : (b : ℕ) → is_body_byte b ≡ true → not (b == 32) ≡ true
body_byte_solid b is = grind (arith, nat_tests, is)

body_byte_colon : (b : ℕ) → is_body_byte b ≡ true → not (b == 58) ≡ true
body_byte_colon b is = grind (arith, nat_tests, is)

lower_byte : (b : ℕ) → is_lower b ≡ true → is_body_byte b ≡ true
lower_byte b is = grind (arith, nat_tests, is)

name_bytes : (name : List ℕ) → is_body_name name ≡ true → list_all is_body_byte name ≡ true
unfolding is_body_name
name_bytes [] is = refl
name_bytes (b ∷ bytes) is =
    let front = and_front (is_lower b && list_all is_body_byte bytes) (nat_le (length bytes) 15) is in
    rw (lower_byte b (and_front (is_lower b) (list_all is_body_byte bytes) front)) (and_back (is_lower b) (list_all is_body_byte bytes) front)

pub decimal_solid : (word : List ℕ) → is_decimal word ≡ true → is_solid word ≡ true
decimal_solid word is = all_pass is_digit (λ b. not (b == 32)) digit_solid word (decimal_digits word is)

pub hexadecimal_solid : (word : List ℕ) → is_hexadecimal word ≡ true → is_solid word ≡ true
hexadecimal_solid word is = all_pass is_hex_digit (λ b. not (b == 32)) hex_digit_solid word (hexadecimal_digits word is)

pub name_solid : (name : List ℕ) → is_body_name name ≡ true → is_solid name ≡ true
name_solid name is = all_pass is_body_byte (λ b. not (b == 32)) body_byte_solid name (name_bytes name is)

op_solid : (op : Op) → is_solid (word_of op) ≡ true
op_solid (Work n) = refl
op_solid _ = refl

pub word_solid : (o : Option Op) → is_solid (first_word o) ≡ true
unfolding exit_word
word_solid None = refl
word_solid (Some op) = op_solid op

-- ---- words of forms

same_bytes : (word : List ℕ) → bytes_eq word word ≡ true
same_bytes [] = refl
same_bytes (b ∷ word) = let same : (b == b) ≡ true = grind (arith, nat_tests) in rw (same, same_bytes word) refl

-- a letter and a number
pub lettered : (letter : ℕ) (number : List ℕ) → is_decimal number ≡ true → is_lettered letter (letter ∷ number) ≡ true
unfolding is_lettered
lettered letter number is = let same : (letter == letter) ≡ true = grind (arith, nat_tests) in rw (same, is) refl

place_of : (had name number : List ℕ) → list_all (λ b. not (b == 58)) name ≡ true → is_place_from had (name ++ 58 ∷ number) ≡ (is_body_name (had ++ name) && is_decimal number)
place_of had [] number apart = ap (λ (l : List ℕ). is_body_name l && is_decimal number) (sym (append-nil had))
place_of had (b ∷ name) number apart =
    let other : (b == 58) ≡ false = grind (arith, nat_tests, and_front (not (b == 58)) (list_all (λ c. not (c == 58)) name) apart) in
    rw other (place_of (had ++ b ∷ []) name number (and_back (not (b == 58)) (list_all (λ c. not (c == 58)) name) apart) ∙ ap (λ (l : List ℕ). is_body_name l && is_decimal number) (append_assoc had (b ∷ []) name))

-- a body's name, a colon and a number
pub place : (name number : List ℕ) → is_body_name name ≡ true → is_decimal number ≡ true → is_place (name ++ 58 ∷ number) ≡ true
place name number named is = place_of [] name number (all_pass is_body_byte (λ b. not (b == 58)) body_byte_colon name (name_bytes name named)) ∙ (rw (named, is) refl)

-- the word of a directive
op_word : (op : Op) → is_directive op ≡ true → is_directive_form (form_in (word_of op)) ≡ true
unfolding form_in
op_word (Work n) is = is
op_word (Goto target) is = is
op_word _ is = refl

abbrev pub is_directive_at : Option Op → Bool
is_directive_at None = true
is_directive_at (Some op) = is_directive op

pub directive_word : (o : Option Op) → is_directive_at o ≡ true → is_directive_word (first_word o) ≡ true
unfolding is_directive_word
directive_word None is = or_front (is_directive_form (form_in exit_word)) (same_bytes exit_word)
directive_word (Some op) is = or_back (bytes_eq (word_of op) exit_word) (op_word op is)

-- the number of a status
abbrev pub is_waits : Status → Bool
is_waits Waits = true
is_waits status = false

pub status_number : (status : Status) → is_waits status ≡ false → is_status (decimal (status_code status)) ≡ true
unfolding digits is_status
status_number Successful is = refl
status_number TaskExitted is = refl
status_number InvalidName is = refl
status_number InvalidId is = refl
status_number TooMany is = refl
status_number Timeout is = refl
status_number ObjectWasDeleted is = refl
status_number InvalidSize is = refl
status_number InvalidAddress is = refl
status_number InvalidNumber is = refl
status_number NotDefined is = refl
status_number ResourceInUse is = refl
status_number Unsatisfied is = refl
status_number IncorrectState is = refl
status_number AlreadySuspended is = refl
status_number InvalidPriority is = refl
status_number NotOwnerOfResource is = refl
status_number Waits is = absurd (false≢true (sym is))
