-- The forms of the lines of schedules.
use Rattle.std.specs.Prelude.{ℕ, List, [], ◌∷◌, ◌++◌, Bool, false, ◌&&◌, ◌||◌, not, Option, Some, None, nat_lt, nat_le, ◌==◌, length, codes, if◌then◌else◌}
use Rattle.std.specs.List.{list_all, list_any}
use Rattle.std.specs.Str.{bytes_eq}
use Rattle.std.specs.Fmt.{decimal}
use Rattle.rk_model.specs.declared.scenario.Op.{Op}
use Rattle.rk_model.specs.Status.{status_code}
use Rattle.rk_model.specs.declared.status.TheConstants.{STATUSES}
use Rattle.rk_model.specs.Text.Words.{spaced, is_digit, has_leading_zero, is_body_name}
use Rattle.rk_model.specs.Text.Forms.{form_in}
use Rattle.rk_model.specs.Text.Schedules.{exit_word, is_directive}

-- decimal digits without a leading zero
unfoldable pub is_decimal : List ℕ → Bool
is_decimal word = nat_lt 0 (length word) && not (has_leading_zero word) && list_all is_digit word

-- a hexadecimal digit in lower case
abbrev pub is_hex_digit : ℕ → Bool
is_hex_digit b = is_digit b || (nat_le 97 b && nat_le b 102)

-- hexadecimal digits in lower case without a leading zero
unfoldable pub is_hexadecimal : List ℕ → Bool
is_hexadecimal word = nat_lt 0 (length word) && not (has_leading_zero word) && list_all is_hex_digit word

-- a letter and a decimal number, as `p0` or `t12`
unfoldable pub is_lettered : ℕ → List ℕ → Bool
is_lettered letter [] = false
is_lettered letter (b ∷ number) = (b == letter) && is_decimal number

-- a body's name, a colon and a decimal number, where name is what has come of the name
abbrev pub is_place_from : List ℕ → List ℕ → Bool
is_place_from name [] = false
is_place_from name (b ∷ bytes) = if b == 58 then is_body_name name && is_decimal bytes else is_place_from (name ++ b ∷ []) bytes

-- a line of a body, known or not: `B:L`
abbrev pub is_place : List ℕ → Bool
is_place word = is_place_from [] word

-- whether there is a form of directives
abbrev pub is_directive_form : Option Op → Bool
is_directive_form None = false
is_directive_form (Some op) = is_directive op

-- the word of a directive, or of the exit
unfoldable pub is_directive_word : List ℕ → Bool
is_directive_word word = bytes_eq word exit_word || is_directive_form (form_in word)

-- the number of a status of RTEMS, in decimal digits
unfoldable pub is_status : List ℕ → Bool
is_status word = list_any (λ status. bytes_eq word (decimal (status_code status))) STATUSES.now

-- what a directive answers: `waits`, `done S O` or `back S O`
unfoldable pub is_answer : List (List ℕ) → Bool
is_answer [] = false
is_answer (how ∷ []) = bytes_eq how (codes "waits")
is_answer (how ∷ status ∷ []) = false
is_answer (how ∷ status ∷ out ∷ []) = (bytes_eq how (codes "done") || bytes_eq how (codes "back")) && is_status status && is_hexadecimal out
is_answer (how ∷ status ∷ out ∷ word ∷ words) = false

-- the line of a directive, behind its first word: `tI B:L W` and an answer
unfoldable pub is_call : List (List ℕ) → Bool
is_call [] = false
is_call (task ∷ []) = false
is_call (task ∷ place ∷ []) = false
is_call (task ∷ place ∷ word ∷ answer) = is_lettered 116 task && is_place place && is_directive_word word && is_answer answer

-- what a processor did: `tI`, `sI` or `-`
abbrev pub is_view : List ℕ → Bool
is_view word = bytes_eq word (codes "-") || is_lettered 116 word || is_lettered 115 word

-- the line of a tick, behind its first word: `N` and what each of so many processors did
unfoldable pub is_tick : ℕ → List (List ℕ) → Bool
is_tick cpus [] = false
is_tick cpus (number ∷ views) = is_decimal number && (length views == cpus) && list_all is_view views

-- the line of a period, behind its first word: `ID` and eight numbers
unfoldable pub is_period : List (List ℕ) → Bool
is_period [] = false
is_period (id ∷ numbers) = is_hexadecimal id && (length numbers == 8) && list_all is_decimal numbers

-- one number, and nothing behind it
unfoldable pub is_number : List (List ℕ) → Bool
is_number [] = false
is_number (number ∷ []) = is_decimal number
is_number (number ∷ word ∷ words) = false

-- one word, and nothing behind it
unfoldable pub is_word : List ℕ → List (List ℕ) → Bool
is_word wanted [] = false
is_word wanted (word ∷ []) = bytes_eq word wanted
is_word wanted (word ∷ more ∷ words) = false

-- a line of these words, where there are so many processors
unfoldable pub is_line : ℕ → List ℕ → List (List ℕ) → Bool
is_line cpus first words =
    if bytes_eq first (codes "tick") then is_tick cpus words
    else if bytes_eq first (codes "period") then is_period words
    else if bytes_eq first (codes "end") then is_number words
    else if bytes_eq first (codes "limit") then nat_lt (length words) 1
    else if bytes_eq first (codes "schedule") then is_word (codes "1") words
    else is_lettered 112 first && is_call words

abbrev pub are_line : ℕ → List (List ℕ) → Bool
are_line cpus [] = false
are_line cpus (first ∷ words) = is_line cpus first words

-- Whether a line is of a form of a schedule's lines, where there are so many processors: `schedule 1`, the line of a directive, of a tick or of a period, `end T` or `limit`.
unfoldable pub has_form : ℕ → List ℕ → Bool
has_form cpus line = are_line cpus (spaced line)
