-- What a mark's token that was taken in tells of the mark.
use Rattle.std.proofs.Common.{◌≡◌, ◌<◌, ℕ, List, [], ◌∷◌, sym, ap, subst, arith, Option, Some}
use Rattle.std.proofs.lemmas.Bool.Decides.{nat_tests}
use Rattle.rk_journal.specs.declared.views.Noted.{Noted}
use Rattle.rk_model.specs.Lists.{times}
use Rattle.rk_journal.specs.Logs.{Quiet}
use Rattle.rk_journal.specs.Tokens.{Token, HasKey}
use Rattle.rk_journal.specs.JournalViews.{MarkView, mark_view}

pub has_own : (k : ℕ) (ks : List ℕ) → ks ≡ k ∷ [] → 0 < times k ks
has_own k ks e = subst (λ (l : List ℕ). 0 < times k l) (sym e) (grind (arith, nat_tests))

quiet_by : (k : ℕ) (s : Token) (m : MarkView) (log : List Noted) → mark_view k (Some s) ≡ m → HasKey k (Some s) → ((j : ℕ) → 0 < times j s.me.0.keys → Quiet j s.me.0.list log) → Quiet m.key m.front log
quiet_by k s m log is sits h = subst (λ (x : MarkView). Quiet x.key x.front log) is (h k (has_own k s.me.0.keys (ap (λ w. w.0.keys) sits)))

pub quiet_told : (k : ℕ) (o : Option Token) (s : Token) (m : MarkView) (log : List Noted) → Some s ≡ o → mark_view k o ≡ m → HasKey k o → ((j : ℕ) → 0 < times j s.me.0.keys → Quiet j s.me.0.list log) → Quiet m.key m.front log
quiet_told k o s m log e is sits h = subst (λ (p : Option Token). mark_view k p ≡ m → HasKey k p → Quiet m.key m.front log) e (λ i t. quiet_by k s m log i t h) is sits
