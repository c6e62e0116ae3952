use Rattle.std.proofs.Common.{◌≡◌, drop}
use Rattle.rk_model.specs.Text.Forms.{form_from}
use Rattle.rk_model.proofs.forms.find.Given as goal

abbrev pub invariant-loop-form : goal.invariant-loop-form
invariant-loop-form l = form_from (drop l.form-index l.forms) l.word ≡ form_from l.forms l.word
