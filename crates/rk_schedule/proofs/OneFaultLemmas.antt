-- Bytes have at most one fault, and none where they are a schedule; a schedule is that of one history.
use Rattle.std.proofs.Common.{◌≡◌, ℕ, ◌+◌, ◌⊎◌, inl, inr, List, [], ◌∷◌, ◌++◌, Option, Some, None, length, arith, refl, sym, ap, ◌∙◌, subst, append_assoc, append-nil, length-append}
use Rattle.std.proofs.lemmas.Bool.{false≢true}
use Rattle.rk_model.specs.declared.scenario.Scenario.{Scenario}
use Rattle.rk_model.specs.declared.entry.Entry.{Entry}
use Rattle.rk_model.specs.Histories.{Legal}
use Rattle.rk_model.specs.Text.Schedules.{schedule_lines}
use Rattle.rk_model.specs.declared.schedule.ScheduleWhy.{ScheduleWhy}
use Rattle.rk_model.specs.declared.schedule.ScheduleWhy.TheVariants.{Form, Status, Order, Unfinished}
use Rattle.rk_model.specs.Text.ScheduleFaults.{Begin, IsScheduleOf, AreGood, IsJudged, IsWrong, ScheduleFault, IsFaultOf, ScheduleFaultIs}
use Rattle.rk_model.specs.Text.Words.{whole_lines, loose_end}
use Rattle.rk_schedule.proofs.CleanLemmas.{AreClean, split_text}

-- ---- lists

-- of two lists that others begin with, one is the other, or begins with it
fork : (one other r t : List (List ℕ)) → one ++ r ≡ other ++ t
    → (one ≡ other) ⊎ ((line : List ℕ) × (more : List (List ℕ)) × (other ≡ one ++ line ∷ more)) ⊎ ((line : List ℕ) × (more : List (List ℕ)) × (one ≡ other ++ line ∷ more))
fork [] [] r t e = inl refl
fork [] (line ∷ other) r t e = inr (inl (line, other, refl))
fork (line ∷ one) [] r t e = inr (inr (line, one, refl))
fork (line ∷ one) (first ∷ other) r t e =
    let same : line ≡ first = cc (e) in
    let later : one ++ r ≡ other ++ t = cc (e) in
    by same (fork one other r t later) where
      by : line ≡ first → (one ≡ other) ⊎ ((l : List ℕ) × (more : List (List ℕ)) × (other ≡ one ++ l ∷ more)) ⊎ ((l : List ℕ) × (more : List (List ℕ)) × (one ≡ other ++ l ∷ more))
          → (line ∷ one ≡ first ∷ other) ⊎ ((l : List ℕ) × (more : List (List ℕ)) × (first ∷ other ≡ line ∷ one ++ l ∷ more)) ⊎ ((l : List ℕ) × (more : List (List ℕ)) × (line ∷ one ≡ first ∷ other ++ l ∷ more))
      by same (inl all) = inl (cc (same, all))
      by same (inr (inl (l, more, is))) = inr (inl (l, more, cc (same, is)))
      by same (inr (inr (l, more, is))) = inr (inr (l, more, cc (same, is)))

longer : (front : List (List ℕ)) (line : List ℕ) (more : List (List ℕ)) → front ≡ front ++ line ∷ more → ⊥
longer front line more e = let differ : ⊥ = omega (arith, ap length e, length-append front (line ∷ more)) in differ

next_line : (front : List (List ℕ)) (one other : List ℕ) (r t : List (List ℕ)) → front ++ one ∷ r ≡ front ++ other ∷ t → one ≡ other
next_line [] one other r t e = cc (e)
next_line (line ∷ front) one other r t e = let later : front ++ one ∷ r ≡ front ++ other ∷ t = cc (e) in next_line front one other r t later

good_front : (s : Scenario) (front more : List (List ℕ)) → AreGood s (front ++ more) → AreGood s front
good_front s front more (inl (xs, allowed, (rest, is))) = inl (xs, allowed, (more ++ rest, is ∙ append_assoc front more rest))
good_front s front more (inr (xs, fin, (rest, is))) = inr (xs, fin, (more ++ rest, is ∙ append_assoc front more rest))

-- ---- one fault

judged_one : (s : Scenario) (before : List (List ℕ)) (line : List ℕ) (one other : ScheduleWhy) → IsJudged s before line one → IsJudged s before line other → one ≡ other
judged_one s before line Form Form a b = refl
judged_one s before line Form Status a b = absurd (false≢true (sym a ∙ b.0))
judged_one s before line Form Order a b = absurd (false≢true (sym a ∙ b.0))
judged_one s before line Form Unfinished a b = absurd b
judged_one s before line Status Form a b = absurd (false≢true (sym b ∙ a.0))
judged_one s before line Status Status a b = refl
judged_one s before line Status Order a b = absurd (b.1 a.1)
judged_one s before line Status Unfinished a b = absurd b
judged_one s before line Order Form a b = absurd (false≢true (sym b ∙ a.0))
judged_one s before line Order Status a b = absurd (a.1 b.1)
judged_one s before line Order Order a b = refl
judged_one s before line Order Unfinished a b = absurd b
judged_one s before line Unfinished other a b = absurd a

-- the lines in front of a fault are the first ones
wrong_front : (s : Scenario) (bytes : List ℕ) (before : List (List ℕ)) (why : ScheduleWhy) → IsWrong s bytes before why → Begin before (whole_lines bytes)
wrong_front s bytes before why (inl (lacks, is)) = ([], lacks.0 ∙ sym (append-nil before))
wrong_front s bytes before why (inr (line, inl ((more, is), bad), judged)) = (line ∷ more, is ∙ append_assoc before (line ∷ []) more)
wrong_front s bytes before why (inr (line, inr more, judged)) = ([], more.lines_are ∙ sym (append-nil before))

-- good lines aren't longer than those in front of a fault
none_longer : (s : Scenario) (bytes : List ℕ) (before : List (List ℕ)) (why : ScheduleWhy) (line : List ℕ) (more : List (List ℕ)) → IsWrong s bytes before why → AreGood s (before ++ line ∷ more) → Begin (before ++ line ∷ more) (whole_lines bytes) → ⊥
none_longer s bytes before why line more (inl (lacks, is)) good front = longer before line (more ++ front.0) (sym lacks.0 ∙ front.1 ∙ append_assoc before (line ∷ more) front.0)
none_longer s bytes before why line more (inr (l, inl ((rest, is), bad), judged)) good front =
    let same : l ≡ line = next_line before l line rest (more ++ front.0) (sym (append_assoc before (l ∷ []) rest) ∙ sym is ∙ front.1 ∙ append_assoc before (line ∷ more) front.0) in
    let one : before ++ line ∷ more ≡ (before ++ l ∷ []) ++ more = ap (λ (x : List ℕ). before ++ x ∷ more) (sym same) ∙ sym (append_assoc before (l ∷ []) more) in
    bad (good_front s (before ++ l ∷ []) more (subst (AreGood s) one good))
none_longer s bytes before why line more (inr (l, inr m, judged)) good front = longer before line (more ++ front.0) (sym m.lines_are ∙ front.1 ∙ append_assoc before (line ∷ more) front.0)

wrong_one : (s : Scenario) (bytes : List ℕ) (before : List (List ℕ)) (one other : ScheduleWhy) → IsWrong s bytes before one → IsWrong s bytes before other → one ≡ other
wrong_one s bytes before one other (inl a) (inl b) = a.1 ∙ sym b.1
wrong_one s bytes before one other (inl a) (inr (line, inl ((more, is), bad), judged)) = absurd (longer before line more (sym a.0.0 ∙ is ∙ append_assoc before (line ∷ []) more))
wrong_one s bytes before one other (inl a) (inr (line, inr m, judged)) = absurd (a.0.1 m.whole)
wrong_one s bytes before one other (inr (line, inl ((more, is), bad), judged)) (inl b) = absurd (longer before line more (sym b.0.0 ∙ is ∙ append_assoc before (line ∷ []) more))
wrong_one s bytes before one other (inr (line, inr m, judged)) (inl b) = absurd (b.0.1 m.whole)
wrong_one s bytes before one other (inr (line, inl ((more, is), bad), judged)) (inr (l, inl ((rest, its), wrong), other_judged)) =
    let same : line ≡ l = next_line before line l more rest (sym (append_assoc before (line ∷ []) more) ∙ sym is ∙ its ∙ append_assoc before (l ∷ []) rest) in
    judged_one s before l one other (subst (λ (x : List ℕ). IsJudged s before x one) same judged) other_judged
wrong_one s bytes before one other (inr (line, inl ((more, is), bad), judged)) (inr (l, inr m, other_judged)) = absurd (longer before line more (sym m.lines_are ∙ is ∙ append_assoc before (line ∷ []) more))
wrong_one s bytes before one other (inr (line, inr m, judged)) (inr (l, inl ((rest, its), wrong), other_judged)) = absurd (longer before l rest (sym m.lines_are ∙ its ∙ append_assoc before (l ∷ []) rest))
wrong_one s bytes before one other (inr (line, inr m, judged)) (inr (l, inr n, other_judged)) =
    let same : line ≡ l = sym m.loose ∙ n.loose in
    judged_one s before l one other (subst (λ (x : List ℕ). IsJudged s before x one) same judged) other_judged

same_fault : (l m : ℕ) (v w : ScheduleWhy) → l ≡ m → v ≡ w → ◌≡◌ {A = ScheduleFault} (record { line = l; why = v }) (record { line = m; why = w })
same_fault l m v w lines whys = rw (lines, whys) refl

-- bytes have at most one fault
pub one_fault : (s : Scenario) (bytes : List ℕ) (one other : ScheduleFault) → IsFaultOf s bytes one → IsFaultOf s bytes other → one ≡ other
one_fault s bytes one other a b =
    let f = wrong_front s bytes a.before one.why a.wrong in
    let g = wrong_front s bytes b.before other.why b.wrong in
    by f g (fork a.before b.before f.0 g.0 (sym f.1 ∙ g.1)) where
      by : Begin a.before (whole_lines bytes) → Begin b.before (whole_lines bytes)
          → (a.before ≡ b.before) ⊎ ((line : List ℕ) × (more : List (List ℕ)) × (b.before ≡ a.before ++ line ∷ more)) ⊎ ((line : List ℕ) × (more : List (List ℕ)) × (a.before ≡ b.before ++ line ∷ more)) → one ≡ other
      by f g (inl same) =
          let lines : one.line ≡ other.line = a.number ∙ ap (λ (l : List (List ℕ)). length l + 1) same ∙ sym b.number in
          let whys : one.why ≡ other.why = wrong_one s bytes b.before one.why other.why (subst (λ (l : List (List ℕ)). IsWrong s bytes l one.why) same a.wrong) b.wrong in
          same_fault one.line other.line one.why other.why lines whys
      by f g (inr (inl (line, more, is))) = absurd (none_longer s bytes a.before one.why line more a.wrong (subst (AreGood s) is b.good) (subst (λ (l : List (List ℕ)). Begin l (whole_lines bytes)) is g))
      by f g (inr (inr (line, more, is))) = absurd (none_longer s bytes b.before other.why line more b.wrong (subst (AreGood s) is a.good) (subst (λ (l : List (List ℕ)). Begin l (whole_lines bytes)) is f))

-- ---- a schedule has no fault

-- no line of a finished history's schedule has a line feed
abbrev pub AllClean : Scenario → Type 0
AllClean s = (xs : List Entry) → Legal s xs → AreClean (schedule_lines s xs)

-- a schedule has no fault
pub not_both : (s : Scenario) (bytes : List ℕ) (xs : List Entry) (fault : ScheduleFault) → AllClean s → IsScheduleOf s bytes xs → IsFaultOf s bytes fault → ⊥
not_both s bytes xs fault clean is f =
    let split = split_text (schedule_lines s xs) (clean xs is.finished.allowed.legal) in
    by (ap whole_lines is.text ∙ split.0) (ap loose_end is.text ∙ split.1) f.wrong where
      by : whole_lines bytes ≡ schedule_lines s xs → loose_end bytes ≡ [] → IsWrong s bytes f.before fault.why → ⊥
      by lines loose (inl (lacks, why)) = lacks.1 (xs, is.finished, sym lacks.0 ∙ lines)
      by lines loose (inr (line, inl ((more, its), bad), judged)) = bad (inr (xs, is.finished, (more, sym lines ∙ its)))
      by lines loose (inr (line, inr m, judged)) = m.some (sym m.loose ∙ loose)

-- what is wrong with bytes is one thing, or nothing
pub one_answer : (s : Scenario) (bytes : List ℕ) (one other : Option ScheduleFault) → AllClean s → ScheduleFaultIs s bytes one → ScheduleFaultIs s bytes other → one ≡ other
one_answer s bytes None None clean a b = refl
one_answer s bytes None (Some g) clean a b = absurd (not_both s bytes a.0 g clean a.1 b)
one_answer s bytes (Some f) None clean a b = absurd (not_both s bytes b.0 f clean b.1 a)
one_answer s bytes (Some f) (Some g) clean a b = ap (λ (h : ScheduleFault). Some h) (one_fault s bytes f g a b)
