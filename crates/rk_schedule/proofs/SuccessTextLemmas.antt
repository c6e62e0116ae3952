-- The text of an answer whose status is SUCCESSFUL.
use Rattle.std.proofs.Common.{◌≡◌, ◌++◌, ℕ, false, refl, codes, arith}
use Rattle.std.specs.Fmt.{digits}
use Rattle.rk_model.specs.declared.entry.What.TheVariants.{Call, Return}
use Rattle.rk_model.specs.Text.Schedules.{reply_text, answer_text}
use Rattle.rk_schedule.proofs.DigitLemmas.{one_digit}

pub done_text : (out : ℕ) → codes " done 0 " ++ digits 16 false out ≡ answer_text Call 0 out
unfolding answer_text reply_text
done_text out = rw (one_digit 10 0 (omega arith)) refl

pub back_text : (out : ℕ) → codes " back 0 " ++ digits 16 false out ≡ answer_text Return 0 out
unfolding answer_text reply_text
back_text out = rw (one_digit 10 0 (omega arith)) refl

pub done_nothing : codes " done 0 0" ≡ answer_text Call 0 0
unfolding answer_text reply_text digits
done_nothing = refl

pub back_nothing : codes " back 0 0" ≡ answer_text Return 0 0
unfolding answer_text reply_text digits
back_nothing = refl
