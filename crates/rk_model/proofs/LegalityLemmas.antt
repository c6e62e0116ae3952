-- The laws of histories.
use Rattle.std.proofs.Common.{◌≡◌, ◌≢◌, inl, inr, ℕ, zero, suc, ◌+◌, ◌-◌, ◌<◌, ◌≤◌, List, [], ◌∷◌, ◌++◌, Bool, true, false, cond, eqb, ltb, Option, Some, None, is_none, length, length-append, slice_get, ⊎_elim, arith, refl, sym, ap, ◌∙◌, subst}
use Rattle.std.proofs.lemmas.Bool.{cases_lt, false≢true}
use Rattle.std.proofs.lemmas.Bool.Decides.{nat_tests}
use Rattle.std.proofs.lemmas.List.{append-nil, get_or_past}
use mathlib.Core.List.{IsPrefix}
use Rattle.rk_model.specs.declared.scenario.Scenario.{Scenario}
use Rattle.rk_model.specs.declared.entry.Entry.{Entry}
use Rattle.rk_model.specs.declared.entry.Reply.{Reply}
use Rattle.rk_model.specs.declared.entry.What.TheVariants.{Tick, End}
use Rattle.rk_model.specs.State.{Plain, thread_at}
use Rattle.rk_model.specs.Scheduling.Helping.{helped}
use Rattle.rk_model.specs.Scheduling.Seats.{all_cpus, cpu_count}
use Rattle.rk_model.specs.Scheduling.Running.{view_of, ready, caller, first_of, least_from, least}
use Rattle.rk_model.specs.Steps.{Act, act, act_of, clock_at, clock_of, what_of, clock_entry}
use Rattle.rk_model.specs.Scheduling.Ticks.{tick}
use Rattle.rk_model.specs.Histories.{opening, next_of, next_by, after_from, is_end, ends, IsDone, IsOf, LegalFrom, Legal, turn, lowest_on, lowest_from}
use Rattle.rk_model.specs.HistoryLaws.{LowestIsLegal, LowestIsWithin, NothingFollowsEnd, NoProcessorActsAfterEnd, QuietMeansNoDirective}

-- what a seat did names the seat, and is End only where the kernel was quiet and stays as it is
pub record IsOwn (k : Plain) (q : ℕ) (a : Act) : Type 0 where
  pub seat : a.entry.seat ≡ q
  pub end : is_end a.entry.what ≡ true → (least k ≡ None) × (a.next ≡ k)

abbrev AreOwn : Plain → ℕ → Option Act → Type 0
AreOwn k q None = Unit {0}
AreOwn k q (Some a) = IsOwn k q a

no_end : (finished : Option Reply) → is_end (what_of finished) ≡ false
no_end None = refl
no_end (Some reply) = refl

of_processor : (k : Plain) (q : ℕ) (o : Option ℕ) → AreOwn k q (act_of k q o)
of_processor k q None = tt
of_processor k q (Some t) = record { seat = refl; end = λ h. absurd (false≢true (sym (no_end (thread_at k t).finished) ∙ h)) }

at_clock : (k : Plain) → least k ≡ None → AreOwn k 8 (clock_at k)
at_clock k e = by k (ltb k.present k.scenario.horizon) (eqb k.present k.scenario.horizon) e where
  by : (k : Plain) (b d : Bool) → least k ≡ None → AreOwn k 8 (cond b (Some (let a : Act = record { entry = clock_entry Tick; next = tick k } in a)) (cond d (Some (let a : Act = record { entry = clock_entry End; next = k } in a)) None))
  by k true d e = record { seat = refl; end = λ h. absurd (false≢true h) }
  by k false true e = record { seat = refl; end = λ h. (e, refl) }
  by k false false e = tt

of_clock : (k : Plain) (o : Option ℕ) → least k ≡ o → AreOwn k 8 (cond (is_none o) (clock_at k) None)
of_clock k (Some p) e = tt
of_clock k None e = at_clock k e

own_act : (k : Plain) (q : ℕ) → AreOwn k q (act k q)
own_act k q = by k q (eqb q 8) refl where
  by : (k : Plain) (q : ℕ) (b : Bool) → eqb q 8 ≡ b → AreOwn k q (cond b (clock_of k) (act_of k q (caller k q)))
  by k q true e =
      let same : 8 ≡ q = grind (arith, nat_tests, e) in
      subst (λ p. AreOwn k p (clock_of k)) same (of_clock k (least k) refl)
  by k q false e = of_processor k q (caller k q)

-- The entry that a seat makes names the seat.
pub own : (k : Plain) (q : ℕ) (a : Act) → act k q ≡ Some a → IsOwn k q a
own k q a e = subst (AreOwn k q) e (own_act k q)

of_some : (o : Option Act) (a : Act) → o ≡ Some a → IsOf o a.entry
of_some o a e = subst (λ (x : Option Act). IsOf x a.entry) (sym e) refl

next_some : (k : Plain) (o : Option Act) (a : Act) → o ≡ Some a → next_of k o ≡ a.next
next_some k o a e = ap (next_of k) e

cut_end : (b : Bool) (xs : List Entry) → b ≡ true → cond b [] xs ≡ []
cut_end b xs e = rw e refl

legal_cut : (k : Plain) (b : Bool) (xs : List Entry) → LegalFrom k xs → LegalFrom k (cond b [] xs)
legal_cut k true xs legal = tt
legal_cut k false xs legal = legal

legal_turn : (k : Plain) (n : ℕ) (o : Option Act) → act k (turn k) ≡ o → ((next : Plain) → LegalFrom next (lowest_from n next)) → LegalFrom k (lowest_on (lowest_from n) o)
legal_turn k n None e more = tt
legal_turn k n (Some a) e more =
    let seat = (own k (turn k) a e).seat in
    let did : act k a.entry.seat ≡ Some a = ap (act k) seat ∙ e in (
      of_some (act k a.entry.seat) a did,
      cut_end (is_end a.entry.what) (lowest_from n a.next),
      legal_cut (next_by k a.entry) (is_end a.entry.what) (lowest_from n a.next) (subst (λ (m : Plain). LegalFrom m (lowest_from n a.next)) (sym (next_some k (act k a.entry.seat) a did)) (more a.next)),
    )

legal_from : (n : ℕ) (k : Plain) → LegalFrom k (lowest_from n k)
legal_from zero k = tt
legal_from (suc n) k = legal_turn k n (act k (turn k)) refl (legal_from n)

pub lowest_legal : LowestIsLegal
lowest_legal s n = legal_from n (opening s)

within_cut : (n : ℕ) (b : Bool) (xs : List Entry) → length xs ≤ n → length (cond b [] xs) ≤ n
within_cut n true xs h = omega arith
within_cut n false xs h = h

within_turn : (n : ℕ) (o : Option Act) → ((next : Plain) → length (lowest_from n next) ≤ n) → length (lowest_on (lowest_from n) o) ≤ suc n
within_turn n None more = omega arith
within_turn n (Some a) more = omega (arith, within_cut n (is_end a.entry.what) (lowest_from n a.next) (more a.next))

within_from : (n : ℕ) (k : Plain) → length (lowest_from n k) ≤ n
within_from zero k = omega arith
within_from (suc n) k = within_turn n (act k (turn k)) (within_from n)

pub lowest_within : LowestIsWithin
lowest_within s n = within_from n (opening s)

nothing_from : (k : Plain) (xs ys : List Entry) (x : Entry) → LegalFrom k (xs ++ x ∷ ys) → is_end x.what ≡ true → ys ≡ []
nothing_from k [] ys x legal end = legal.1 end
nothing_from k (y ∷ xs) ys x legal end = nothing_from (next_by k y) xs ys x legal.2 end

pub nothing_after : NothingFollowsEnd
nothing_after s xs ys x legal end = nothing_from (opening s) xs ys x legal end

-- where none of some processors has a directive, none of them is a caller
no_caller_by : (k : Plain) (p n q : ℕ) (o : Option ℕ) → caller k p ≡ o → first_of o p (least_from k (p + 1) n) ≡ None → p ≤ q → q < p + suc n → (least_from k (p + 1) n ≡ None → p + 1 ≤ q → q < p + 1 + n → caller k q ≡ None) → caller k q ≡ None
no_caller_by k p n q (Some t) is e low high more = let no : ⊥ = cc in absurd no
no_caller_by k p n q None is e low high more =
    ⊎_elim (λ h. more e (omega (arith, h)) (omega arith)) (λ h. let same : p ≡ q = omega (arith, h, low) in subst (λ r. caller k r ≡ None) same is) (cases_lt p q)

no_caller_from : (k : Plain) (p n q : ℕ) → least_from k p n ≡ None → p ≤ q → q < p + n → caller k q ≡ None
no_caller_from k p zero q e low high = absurd (omega arith)
no_caller_from k p (suc n) q e low high =
    no_caller_by k p n q (caller k p) refl e low high (no_caller_from k (p + 1) n q)

pub past_caller : (k : Plain) (q : ℕ) → cpu_count k ≤ q → caller k q ≡ None
past_caller k q h = ap (λ o. ready k (view_of k o (helped k q))) (get_or_past (all_cpus k.clusters) q None h)

no_caller : (k : Plain) (q : ℕ) → least k ≡ None → caller k q ≡ None
no_caller k q e = ⊎_elim (λ h. no_caller_from k 0 (cpu_count k) q e (omega arith) (omega (arith, h))) (λ h. past_caller k q h) (cases_lt q (cpu_count k))

quiet : (k : Plain) → least k ≡ None → (p : ℕ) → p ≢ 8 → act k p ≡ None
quiet k e p other =
    let test : eqb p 8 ≡ false = grind (arith, nat_tests, other) in
    rw (test, no_caller k p e) refl

quiet_next : (k : Plain) (x : Entry) (o : Option Act) → act k x.seat ≡ o → IsOf o x → is_end x.what ≡ true → (p : ℕ) → p ≢ 8 → act (next_of k o) p ≡ None
quiet_next k x None e is end = absurd is
quiet_next k x (Some a) e is end =
    let o = (own k x.seat a e).end (ap (λ (y : Entry). is_end y.what) is ∙ end) in
    subst (λ (m : Plain). (p : ℕ) → p ≢ 8 → act m p ≡ None) (sym o.1) (quiet k o.0)

-- whether a history ends with End, where before says it of what is in front
abbrev pub ends_from : Bool → List Entry → Bool
ends_from before [] = before
ends_from before (x ∷ xs) = ends_from (is_end x.what) xs

ends_behind : (x : Entry) (xs : List Entry) → ends (x ∷ xs) ≡ ends_from (is_end x.what) xs
ends_behind x [] = refl
ends_behind x (y ∷ xs) = ends_behind y xs

pub ends_is : (xs : List Entry) → ends xs ≡ ends_from false xs
ends_is [] = refl
ends_is (x ∷ xs) = ends_behind x xs

-- a history ends with End where its last entry is that
pub ends_last : (xs : List Entry) (x : Entry) → Some x ≡ slice_get xs (length xs - 1) → is_end x.what ≡ ends xs
ends_last [] x is = let no : ⊥ = cc in absurd no
ends_last (y ∷ []) x is = let same : x ≡ y = cc in ap (λ (z : Entry). is_end z.what) same
ends_last (y ∷ z ∷ zs) x is =
    let more : suc (suc (length zs)) - 1 ≡ suc (length zs) = omega arith in
    let one : length zs ≡ suc (length zs) - 1 = omega arith in
    ends_last (z ∷ zs) x (is ∙ ap (slice_get (y ∷ z ∷ zs)) more ∙ ap (slice_get (z ∷ zs)) one)

quiet_from : (k : Plain) (xs : List Entry) (b : Bool) → LegalFrom k xs → ends_from b xs ≡ true → (b ≡ true → (p : ℕ) → p ≢ 8 → act k p ≡ None) → (p : ℕ) → p ≢ 8 → act (after_from k xs) p ≡ None
quiet_from k [] b legal end before = before end
quiet_from k (x ∷ xs) b legal end before =
    quiet_from (next_by k x) xs (is_end x.what) legal.2 end (λ e. quiet_next k x (act k x.seat) refl legal.0 e)

pub quiet_after : NoProcessorActsAfterEnd
quiet_after s xs legal end = quiet_from (opening s) xs false legal (sym (ends_is xs) ∙ end) (λ e. absurd (false≢true e))

-- a kernel in which no processor has a directive is quiet
none_least : (k : Plain) (p n : ℕ) → ((q : ℕ) → caller k q ≡ None) → least_from k p n ≡ None
none_least k p zero none = refl
none_least k p (suc n) none = rw (none p) (none_least k (p + 1) n none)

is_none_none : (o : Option ℕ) → is_none o ≡ true → o ≡ None
is_none_none None h = refl
is_none_none (Some p) h = absurd (false≢true h)

pub quiet_means : QuietMeansNoDirective
quiet_means k = ((λ q p. no_caller k p (is_none_none (least k) q)), (λ none. ap (λ (o : Option ℕ). is_none o) (none_least k 0 (cpu_count k) none)))

-- ---- a history with an entry behind it

pub after_push : (k : Plain) (xs : List Entry) (x : Entry) → after_from k (xs ++ x ∷ []) ≡ next_by (after_from k xs) x
after_push k [] x = refl
after_push k (y ∷ xs) x = after_push (next_by k y) xs x

pub legal_push : (k : Plain) (xs : List Entry) (x : Entry) → LegalFrom k xs → ends xs ≡ false → IsOf (act (after_from k xs) x.seat) x → LegalFrom k (xs ++ x ∷ [])
legal_push k [] x legal going is = (is, (λ _. refl), tt)
legal_push k (y ∷ []) x legal going is = (legal.0, (λ e. absurd (false≢true (sym going ∙ e))), legal_push (next_by k y) [] x tt refl is)
legal_push k (y ∷ z ∷ zs) x legal going is = (legal.0, (λ e. let no : ⊥ = cc (legal.1 e) in absurd no), legal_push (next_by k y) (z ∷ zs) x legal.2 going is)

-- ---- a history that is done

-- where one list begins another that is no longer, they are the same
pub prefix_whole : (xs ys : List Entry) → IsPrefix xs ys → length ys ≤ length xs → xs ≡ ys
prefix_whole xs ys p long = whole p.0 p.1 (omega (arith, ap length p.1, length-append xs p.0, long)) where
  whole : (rest : List Entry) → xs ++ rest ≡ ys → length rest ≡ 0 → xs ≡ ys
  whole [] e n = sym (append-nil xs) ∙ e
  whole (r ∷ rest) e n = absurd (omega (arith, n))

nothing_behind : (k : Plain) (xs rest : List Entry) → LegalFrom k (xs ++ rest) → ends xs ≡ true → rest ≡ []
nothing_behind k [] rest l h = absurd (false≢true h)
nothing_behind k (x ∷ []) rest l h = l.1 h
nothing_behind k (x ∷ y ∷ xs) rest l h = nothing_behind (next_by k x) (y ∷ xs) rest l.2 h

-- where a done history begins a legal one within the limit, it is that one
pub done_whole : (s : Scenario) (n : ℕ) (xs ys : List Entry) → Legal s ys → length ys ≤ n → IsPrefix xs ys → IsDone n xs → xs ≡ ys
done_whole s n xs ys legal within p (inl e) =
    let none = nothing_behind (opening s) xs p.0 (subst (Legal s) (sym p.1) legal) e in
    sym (append-nil xs) ∙ (ap (λ r. xs ++ r) (sym none) ∙ p.1)
done_whole s n xs ys legal within p (inr e) = prefix_whole xs ys p (omega (arith, within, e))
