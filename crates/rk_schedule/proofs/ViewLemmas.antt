-- What the processors do, one after another.
use Rattle.std.proofs.Common.{◌≡◌, ℕ, suc, ◌+◌, ◌-◌, ◌<◌, ◌++◌, arith, refl}
use Rattle.rk_model.specs.State.{Plain}
use Rattle.rk_model.specs.Scheduling.Running.{running}
use Rattle.rk_model.specs.Text.Schedules.{view_text, views_from}

views_suc : (k : Plain) (p m n : ℕ) → n ≡ suc m → views_from k p n ≡ view_text (running k p) ++ views_from k (p + 1) m
views_suc k p m n e = rw e refl

-- what the processors do from one on is what it does, and what the processors behind it do
pub views_more : (k : Plain) (p n : ℕ) → p < n → views_from k p (n - p) ≡ view_text (running k p) ++ views_from k (p + 1) (n - (p + 1))
views_more k p n h = views_suc k p (n - (p + 1)) (n - p) (omega arith)
