-- Each reason of a fault comes exactly where it is said to come.
use Rattle.std.proofs.Common.{◌≡◌, ℕ, zero, suc, ◌+◌, ◌≤◌, Bool, true, false, cond, ◌⊎◌, inl, inr, List, [], ◌∷◌, length, take, Some, Result, Ok, Err, codes, refl, sym, ap, subst, ◌∙◌, arith}
use Rattle.std.specs.Prelude.{nat_lt, slice_get}
use Rattle.std.proofs.lemmas.Bool.{false≢true, false_from_ne_true, ltb-true, ltb-false, lt-ltb, le-ltb}
use Rattle.std.proofs.Math.Seq.{take-length}
use Rattle.rk_model.specs.declared.scenario.ScenarioWhy.{ScenarioWhy}
use Rattle.rk_model.specs.declared.scenario.ScenarioWhy.TheVariants.{Header, Word, Number, Range, UnknownName, Repeated, TooMany, MissingEnd, NotAscii, TooLarge}
use Rattle.rk_model.specs.declared.scenario.Scenario.{Scenario}
use Rattle.rk_model.specs.Text.Words.{lines_of, words_of, is_plain, is_skipped}
use Rattle.rk_model.specs.Text.Reading.{Phase, Start, Headed, Clustered, Timed, Limited, InBody, InInits, Draft, start, is_header, after_statement, after_words, after_line, Fault, Verdict, Faults, at_end, goes_on, verdict_from, scenario_fault}
use Rattle.rk_scenario.specs.Reasons.{Slot, LineKind, slots_of, kind_at, IsUnfit, AreFit, FirstUnfitIs, Lead, IsReached, IsStatement, IsOfKind, HasUnfitWord, IsNoHeader, HeaderIsMissing, WordIsWrong, NumberIsMissing, NumberIsOutOfRange, NameIsUnknown, NameIsRepeated, LineIsOneTooMany, IsOpen, EndIsMissing, ByteIsUnallowed, TextIsTooLarge, ComesExactlyWhere}
use Rattle.rk_scenario.proofs.ReaderLemmas.{header_is}
use Rattle.rk_scenario.proofs.FirstStopLemmas.{size_faults}
use Rattle.rk_scenario.proofs.LineReasonLemmas.{IsWrong, IsWrongBy, Tells, statement_tells}
use Rattle.rk_scenario.proofs.PlaceLemmas.{IsNamed, started, line_named, lead_passed, passed_lead}

-- ---- what is wrong with a line

-- the header is due, and these words aren't it
abbrev IsUnheaded : Draft → List (List ℕ) → ScenarioWhy → Type 0
IsUnheaded d words why = (d.phase ≡ Start) × (is_header words ≡ false) × (Header ≡ why)

-- what is wrong with these words behind the header
record IsWrongLater (d : Draft) (words : List (List ℕ)) (why : ScenarioWhy) : Type 0 where
  header : d.phase ≡ Start → ⊥
  first : List ℕ
  rest : List (List ℕ)
  words_are : words ≡ first ∷ rest
  wrong : IsWrongBy d (kind_at d.phase first) rest why

-- what is wrong with the words of a line that isn't skipped
abbrev AreWrong : Draft → List (List ℕ) → ScenarioWhy → Type 0
AreWrong d words why = IsUnheaded d words why ⊎ IsWrongLater d words why

-- what is wrong with a line of allowed bytes
record IsWrongPlain (d : Draft) (text : List ℕ) (why : ScenarioWhy) : Type 0 where
  allowed : is_plain text ≡ true
  kept : is_skipped (words_of text) ≡ false
  wrong : AreWrong d (words_of text) why

-- what is wrong with a line
abbrev IsWrongLine : Draft → List ℕ → ScenarioWhy → Type 0
IsWrongLine d text why = ((is_plain text ≡ false) × (NotAscii ≡ why)) ⊎ IsWrongPlain d text why

header_tells : (d : Draft) (words : List (List ℕ)) → d.phase ≡ Start → (b : Bool) → is_header words ≡ b → Tells (cond b (Ok (record d { phase = Headed })) (Err Header)) (AreWrong d words)
header_tells d words start true is = record {
  told = λ why e. absurd cc;
  refused = λ why wrong. elim wrong [
    | inl h ↦ absurd (false≢true (sym h.1 ∙ is))
    | inr h ↦ absurd (h.header start)
  ];
}
header_tells d words start false is = record {
  told = λ why e. inl (start, is, cc);
  refused = λ why wrong. elim wrong [
    | inl h ↦ ap (λ (w : ScenarioWhy). Err w) h.2
    | inr h ↦ absurd (h.header start)
  ];
}

later_tells : (d : Draft) (first : List ℕ) (rest : List (List ℕ)) → (d.phase ≡ Start → ⊥) → IsNamed d → Tells (after_statement d.phase d (first ∷ rest)) (AreWrong d (first ∷ rest))
later_tells d first rest behind named =
    let tells = statement_tells d first rest behind named.bodies named.own in
    record {
      told = λ why e. inr (record { header = behind; first = first; rest = rest; words_are = refl; wrong = tells.told why e });
      refused = λ why wrong. elim wrong [
        | inl h ↦ absurd (behind h.0)
        | inr h ↦
            let same_first : h.first ≡ first = cc (h.words_are) in
            let same_rest : h.rest ≡ rest = cc (h.words_are) in
            tells.refused why (subst (λ (r : List (List ℕ)). IsWrongBy d (kind_at d.phase first) r why) same_rest (subst (λ (f : List ℕ). IsWrongBy d (kind_at d.phase f) h.rest why) same_first h.wrong))
      ];
    }

words_tell : (d : Draft) (words : List (List ℕ)) → is_skipped words ≡ false → IsNamed d → Tells (after_statement d.phase d words) (AreWrong d words)
words_tell d [] kept named = absurd cc
words_tell d (first ∷ rest) kept named = elim (started d.phase) [
  | inl is ↦ subst (λ (p : Phase). Tells (after_statement p d (first ∷ rest)) (AreWrong d (first ∷ rest))) (sym is) (header_tells d (first ∷ rest) is (is_header (first ∷ rest)) refl)
  | inr behind ↦ later_tells d first rest behind named
]

line_tells : (d : Draft) (text : List ℕ) → IsNamed d → Tells (after_line d text) (IsWrongLine d text)
unfolding after_line after_words
line_tells d text named = go (is_plain text) (is_skipped (words_of text)) refl refl
  where
    go : (plain skipped : Bool) → is_plain text ≡ plain → is_skipped (words_of text) ≡ skipped → Tells (cond plain (cond skipped (Ok d) (after_statement d.phase d (words_of text))) (Err NotAscii)) (IsWrongLine d text)
    go false skipped is kept = record {
      told = λ why e. inl (is, cc);
      refused = λ why wrong. elim wrong [
        | inl h ↦ ap (λ (w : ScenarioWhy). Err w) h.1
        | inr h ↦ absurd (false≢true (sym is ∙ h.allowed))
      ];
    }
    go true true is kept = record {
      told = λ why e. absurd cc;
      refused = λ why wrong. elim wrong [
        | inl h ↦ absurd (false≢true (sym h.0 ∙ is))
        | inr h ↦ absurd (false≢true (sym h.kept ∙ kept))
      ];
    }
    go true false is kept =
        let tells = words_tell d (words_of text) kept named in
        record {
          told = λ why e. inr (record { allowed = is; kept = kept; wrong = tells.told why e });
          refused = λ why wrong. elim wrong [
            | inl h ↦ absurd (false≢true (sym h.0 ∙ is))
            | inr h ↦ tells.refused why h.wrong
          ];
        }

-- ---- where reading stops

-- what is wrong where the lines end
abbrev IsWrongEnd : Phase → ScenarioWhy → Type 0
IsWrongEnd Start why = Header ≡ why
IsWrongEnd Headed why = MissingEnd ≡ why
IsWrongEnd Clustered why = MissingEnd ≡ why
IsWrongEnd InBody why = MissingEnd ≡ why
IsWrongEnd _ why = ⊥

-- a fault at this place behind a draft
abbrev fault_at : ℕ → ScenarioWhy → Fault
fault_at n why = record { line = n; why = why }

same_faults : (n m : ℕ) (first second : ScenarioWhy) → Faults (record { line = n; why = first }) ≡ Faults (record { line = m; why = second }) → (m ≡ n) × (first ≡ second)
same_faults n m first second e =
    let same : ◌≡◌ {A = Fault} (record { line = n; why = first }) (record { line = m; why = second }) = cc in
    (sym (ap (λ (x : Fault). x.line) same), ap (λ (x : Fault). x.why) same)

end_told : (p : Phase) (s : Scenario) (n line : ℕ) (why : ScenarioWhy) → at_end p s n ≡ Faults (fault_at line why) → (line ≡ n) × IsWrongEnd p why
end_told Start s n line why e = same_faults n line Header why e
end_told Headed s n line why e = same_faults n line MissingEnd why e
end_told Clustered s n line why e = same_faults n line MissingEnd why e
end_told Timed s n line why e = absurd cc
end_told Limited s n line why e = absurd cc
end_told InBody s n line why e = same_faults n line MissingEnd why e
end_told InInits s n line why e = absurd cc

end_refused : (p : Phase) (s : Scenario) (n : ℕ) (why : ScenarioWhy) → IsWrongEnd p why → at_end p s n ≡ Faults (fault_at n why)
end_refused Start s n why is = ap (λ (w : ScenarioWhy). Faults (fault_at n w)) is
end_refused Headed s n why is = ap (λ (w : ScenarioWhy). Faults (fault_at n w)) is
end_refused Clustered s n why is = ap (λ (w : ScenarioWhy). Faults (fault_at n w)) is
end_refused InBody s n why is = ap (λ (w : ScenarioWhy). Faults (fault_at n w)) is
end_refused Timed s n why is = absurd is
end_refused _ s n why is = absurd is

-- reading ends behind this line, or the line that follows is wrong
abbrev Ends : List (List ℕ) → ℕ → Draft → ScenarioWhy → Type 0
Ends lines front to why = ((front ≡ length lines) × IsWrongEnd to.phase why) ⊎ ((text : List ℕ) × (slice_get lines front ≡ Some text) × IsWrongLine to text why)

-- Reading from the draft stops behind so many of the lines, for this reason.
record Stops (d : Draft) (lines : List (List ℕ)) (n line : ℕ) (why : ScenarioWhy) : Type 0 where
  front : ℕ
  number : line ≡ n + front
  to : Draft
  named : IsNamed to
  lead : Lead d (take front lines) to
  is : Ends lines front to why

goes_told : (r : Result Draft ScenarioWhy) (n line : ℕ) (rest : Draft → Verdict) (why : ScenarioWhy) → goes_on r n rest ≡ Faults (fault_at line why)
    → ((next : Draft) × (r ≡ Ok next) × (rest next ≡ Faults (fault_at line why))) ⊎ ((r ≡ Err why) × (line ≡ n))
goes_told (Ok next) n line rest why e = inl (next, refl, e)
goes_told (Err is) n line rest why e = let same = same_faults n line is why e in inr (ap (λ (w : ScenarioWhy). Err w) same.1, same.0)

-- behind one line more
one_more : (line : List ℕ) (lines : List (List ℕ)) (front : ℕ) (to : Draft) (why : ScenarioWhy) → Ends lines front to why → Ends (line ∷ lines) (suc front) to why
one_more line lines front to why is = elim is [
  | inl h ↦ inl (ap suc h.0, h.1)
  | inr h ↦ inr h
]

one_less : (line : List ℕ) (lines : List (List ℕ)) (front : ℕ) (to : Draft) (why : ScenarioWhy) → Ends (line ∷ lines) (suc front) to why → Ends lines front to why
one_less line lines front to why is = elim is [
  | inl h ↦ let more : suc front ≡ suc (length lines) = h.0 in inl (omega (arith, more), h.1)
  | inr h ↦ inr h
]

stops_told : (lines : List (List ℕ)) (d : Draft) (n line : ℕ) (why : ScenarioWhy) → IsNamed d → verdict_from d n lines ≡ Faults (fault_at line why) → Stops d lines n line why
stops_told [] d n line why named e =
    let end = end_told d.phase d.scenario n line why e in
    record { front = 0; number = omega (arith, end.0); to = d; named = named; lead = refl; is = inl (refl, end.1) }
stops_told (text ∷ lines) d n line why named e = elim (goes_told (after_line d text) n line (λ next. verdict_from next (n + 1) lines) why e) [
  | inl t ↦
      let rest = stops_told lines t.0 (n + 1) line why (line_named d text t.0 t.1 named) t.2 in
      record { front = suc rest.front; number = omega (arith, rest.number); to = rest.to; named = rest.named; lead = (t.0, t.1, rest.lead); is = one_more text lines rest.front rest.to why rest.is }
  | inr t ↦ record { front = 0; number = omega (arith, t.1); to = d; named = named; lead = refl; is = inr (text, refl, (line_tells d text named).told why t.0) }
]

-- reading stops at the end, or at the first of these lines
here_refused : (lines : List (List ℕ)) (d : Draft) (n : ℕ) (why : ScenarioWhy) → IsNamed d → Ends lines 0 d why → verdict_from d n lines ≡ Faults (fault_at n why)
here_refused [] d n why named is = elim is [
  | inl h ↦ end_refused d.phase d.scenario n why h.1
  | inr h ↦ absurd cc
]
here_refused (text ∷ lines) d n why named is = elim is [
  | inl h ↦ let none : 0 ≡ suc (length lines) = h.0 in absurd (omega (arith, none))
  | inr h ↦
      let same : h.0 ≡ text = cc (h.1) in
      let refused = (line_tells d text named).refused why (subst (λ (t : List ℕ). IsWrongLine d t why) same h.2) in
      ap (λ (r : Result Draft ScenarioWhy). goes_on r n (λ next. verdict_from next (n + 1) lines)) refused
]

stops_refused : (lines : List (List ℕ)) (d to : Draft) (n front : ℕ) (why : ScenarioWhy) → IsNamed d → Lead d (take front lines) to → Ends lines front to why → verdict_from d n lines ≡ Faults (fault_at (n + front) why)
stops_refused lines d to n zero why named lead is =
    let here = here_refused lines d n why named (subst (λ (x : Draft). Ends lines 0 x why) (sym lead) is) in
    let at : n ≡ n + 0 = omega arith in
    here ∙ ap (λ (k : ℕ). Faults (fault_at k why)) at
stops_refused [] d to n (suc front) why named lead is = elim is [
  | inl h ↦ let none : suc front ≡ 0 = h.0 in absurd (omega (arith, none))
  | inr h ↦ absurd cc
]
stops_refused (text ∷ lines) d to n (suc front) why named lead is =
    let rest = stops_refused lines lead.0 to (n + 1) front why (line_named d text lead.0 lead.1 named) lead.2 (one_less text lines front to why is) in
    let at : (n + 1) + front ≡ n + suc front = omega arith in
    ap (λ (r : Result Draft ScenarioWhy). goes_on r n (λ next. verdict_from next (n + 1) lines)) lead.1 ∙ rest ∙ ap (λ (k : ℕ). Faults (fault_at k why)) at

-- ---- what reasons say

-- what each reason says of a text and a line
abbrev Said : ScenarioWhy → List ℕ → ℕ → Type 0
Said Header bytes line = HeaderIsMissing bytes line
Said Word bytes line = WordIsWrong bytes line
Said Number bytes line = NumberIsMissing bytes line
Said Range bytes line = NumberIsOutOfRange bytes line
Said UnknownName bytes line = NameIsUnknown bytes line
Said Repeated bytes line = NameIsRepeated bytes line
Said TooMany bytes line = LineIsOneTooMany bytes line
Said MissingEnd bytes line = EndIsMissing bytes line
Said NotAscii bytes line = ByteIsUnallowed bytes line
Said TooLarge bytes line = TextIsTooLarge bytes line

-- no word is wrong for any of these reasons
apart : (d : Draft) (slots : List Slot) (words : List (List ℕ)) (why : ScenarioWhy) → ((slot : Slot) (word : List ℕ) → IsUnfit d slot word why → ⊥) → FirstUnfitIs d slots words why → ⊥
apart d [] words why none unfit = unfit
apart d (slot ∷ slots) [] why none unfit = unfit
apart d (slot ∷ slots) (word ∷ words) why none unfit = elim unfit [
  | inl h ↦ none slot word h
  | inr h ↦ apart d slots words why none h.1
]

unfit_said : (why : ScenarioWhy) (bytes : List ℕ) (line : ℕ) (d : Draft) (kind : LineKind) (words : List (List ℕ)) → IsOfKind bytes line d kind words → length words ≡ length (slots_of kind) → FirstUnfitIs d (slots_of kind) words why → Said why bytes line
unfit_said Word bytes line d kind words of count unfit = inr (inr (record { draft = d; kind = kind; words = words; of_kind = of; count = count; unfit = unfit }))
unfit_said Number bytes line d kind words of count unfit = record { draft = d; kind = kind; words = words; of_kind = of; count = count; unfit = unfit }
unfit_said Range bytes line d kind words of count unfit = record { draft = d; kind = kind; words = words; of_kind = of; count = count; unfit = unfit }
unfit_said UnknownName bytes line d kind words of count unfit = record { draft = d; kind = kind; words = words; of_kind = of; count = count; unfit = unfit }
unfit_said Repeated bytes line d kind words of count unfit = record { draft = d; kind = kind; words = words; of_kind = of; count = count; unfit = unfit }
unfit_said Header bytes line d kind words of count unfit = absurd (apart d (slots_of kind) words Header (λ slot word h. h) unfit)
unfit_said TooMany bytes line d kind words of count unfit = absurd (apart d (slots_of kind) words TooMany (λ slot word h. h) unfit)
unfit_said MissingEnd bytes line d kind words of count unfit = absurd (apart d (slots_of kind) words MissingEnd (λ slot word h. h) unfit)
unfit_said NotAscii bytes line d kind words of count unfit = absurd (apart d (slots_of kind) words NotAscii (λ slot word h. h) unfit)
unfit_said TooLarge bytes line d kind words of count unfit = absurd (apart d (slots_of kind) words TooLarge (λ slot word h. h) unfit)

kind_said : (why : ScenarioWhy) (bytes : List ℕ) (line : ℕ) (d : Draft) (kind : LineKind) (words : List (List ℕ)) → IsOfKind bytes line d kind words → IsWrong d kind words why → Said why bytes line
kind_said why bytes line d kind words of wrong = elim wrong [
  | inl h ↦ subst (λ (w : ScenarioWhy). Said w bytes line) h.1 (inr (inl (record { draft = d; kind = kind; words = words; of_kind = of; count = h.0 })))
  | inr h ↦ elim h.1 [
    | inl unfit ↦ unfit_said why bytes line d kind words of h.0 unfit
    | inr both ↦ subst (λ (w : ScenarioWhy). Said w bytes line) both.1.1 (record { draft = d; kind = kind; words = words; of_kind = of; fit = both.0; no_room = both.1.0 })
  ]
]

by_kind_said : (why : ScenarioWhy) (bytes : List ℕ) (line : ℕ) (d : Draft) (first : List ℕ) (words : List (List ℕ)) → IsStatement bytes line d first words → IsWrongBy d (kind_at d.phase first) words why → Said why bytes line
by_kind_said why bytes line d first words statement wrong = elim wrong [
  | inl h ↦ subst (λ (w : ScenarioWhy). Said w bytes line) h.1 (inl (record { draft = d; first = first; words = words; statement = statement; strange = h.0 }))
  | inr h ↦ kind_said why bytes line d h.0 words (record { first = first; statement = statement; kind_is = h.1 }) h.2
]

-- the header isn't these words
unheaded : (words : List (List ℕ)) → is_header words ≡ false → words ≡ codes "rtems" ∷ codes "1" ∷ [] → ⊥
unfolding is_header
unheaded words wrong is = false≢true (sym wrong ∙ ap is_header is)

line_said : (why : ScenarioWhy) (bytes : List ℕ) (line : ℕ) (d : Draft) (text : List ℕ) → IsReached bytes line d text → IsNamed start → IsWrongLine d text why → Said why bytes line
line_said why bytes line d text reached named wrong = elim wrong [
  | inl h ↦ subst (λ (w : ScenarioWhy). Said w bytes line) h.1 (record { draft = d; text = text; reached = reached; unallowed = h.0 })
  | inr plain ↦ elim plain.wrong [
    | inl h ↦ subst (λ (w : ScenarioWhy). Said w bytes line) h.2 (record {
      size = reached.size;
      front = reached.front;
      number = reached.number;
      passed = lead_passed (take reached.front (lines_of bytes)) start d reached.lead named h.0;
      missing = inr (text, reached.there, record { allowed = plain.allowed; kept = plain.kept; other = unheaded (words_of text) h.1 });
    })
    | inr h ↦ by_kind_said why bytes line d h.first h.rest (record {
      text = text;
      reached = reached;
      header = h.header;
      allowed = plain.allowed;
      words_are = h.words_are;
      kept = subst (λ (words : List (List ℕ)). is_skipped words ≡ false) h.words_are plain.kept;
    }) h.wrong
  ]
]

-- the end of a text that leads to a draft with lines to follow
record IsCut (bytes : List ℕ) (line : ℕ) (d : Draft) : Type 0 where
  size : length bytes ≤ 1048576
  number : line ≡ length (lines_of bytes) + 1
  lead : Lead start (lines_of bytes) d

open_said : (why : ScenarioWhy) (bytes : List ℕ) (line : ℕ) (d : Draft) → IsCut bytes line d → IsOpen d.phase → MissingEnd ≡ why → Said why bytes line
open_said why bytes line d cut unfinished is = subst (λ (w : ScenarioWhy). Said w bytes line) is (record { size = cut.size; number = cut.number; draft = d; lead = cut.lead; unfinished = unfinished })

end_said : (p : Phase) (why : ScenarioWhy) (bytes : List ℕ) (line : ℕ) (d : Draft) → d.phase ≡ p → IsNamed start → IsCut bytes line d → IsWrongEnd p why → Said why bytes line
end_said Start why bytes line d at named cut wrong = subst (λ (w : ScenarioWhy). Said w bytes line) wrong (record {
  size = cut.size;
  front = length (lines_of bytes);
  number = cut.number;
  passed = rw (take-length (lines_of bytes)) (lead_passed (lines_of bytes) start d cut.lead named at);
  missing = inl refl;
})
end_said Headed why bytes line d at named cut wrong = open_said why bytes line d cut (subst IsOpen (sym at) tt) wrong
end_said Clustered why bytes line d at named cut wrong = open_said why bytes line d cut (subst IsOpen (sym at) tt) wrong
end_said InBody why bytes line d at named cut wrong = open_said why bytes line d cut (subst IsOpen (sym at) tt) wrong
end_said Timed why bytes line d at named cut wrong = absurd wrong
end_said _ why bytes line d at named cut wrong = absurd wrong

named_start : IsNamed start
named_start = record { bodies = tt; own = tt }

-- where reading stops the reason says so
stop_said : (why : ScenarioWhy) (bytes : List ℕ) (line : ℕ) → length bytes ≤ 1048576 → Stops start (lines_of bytes) 1 line why → Said why bytes line
stop_said why bytes line size stop =
    let number : line ≡ stop.front + 1 = omega (arith, stop.number) in
    elim stop.is [
      | inl h ↦
          let last : line ≡ length (lines_of bytes) + 1 = omega (arith, number, h.0) in
          let whole : take stop.front (lines_of bytes) ≡ lines_of bytes = ap (λ (k : ℕ). take k (lines_of bytes)) h.0 ∙ take-length (lines_of bytes) in
          end_said stop.to.phase why bytes line stop.to refl named_start (record { size = size; number = last; lead = subst (λ (lines : List (List ℕ)). Lead start lines stop.to) whole stop.lead }) h.1
      | inr h ↦ line_said why bytes line stop.to h.0 (record { size = size; front = stop.front; number = number; lead = stop.lead; there = h.1 }) named_start h.2
    ]

-- ---- what is said is the fault

small_fault : (bytes : List ℕ) (fault : Fault) → length bytes ≤ 1048576 → verdict_from start 1 (lines_of bytes) ≡ Faults fault → scenario_fault bytes ≡ Some fault
small_fault bytes fault size e =
    let small : nat_lt 1048576 (length bytes) ≡ false = le-ltb 1048576 (length bytes) size in
    rw (small, e) refl

stop_fault : (bytes : List ℕ) (line front : ℕ) (to : Draft) (why : ScenarioWhy) → length bytes ≤ 1048576 → line ≡ front + 1 → Lead start (take front (lines_of bytes)) to → Ends (lines_of bytes) front to why
    → scenario_fault bytes ≡ Some (fault_at line why)
stop_fault bytes line front to why size number lead is =
    let at : 1 + front ≡ line = omega (arith, number) in
    small_fault bytes (fault_at line why) size (stops_refused (lines_of bytes) start to 1 front why named_start lead is ∙ ap (λ (k : ℕ). Faults (fault_at k why)) at)

line_fault : (bytes : List ℕ) (line : ℕ) (d : Draft) (text : List ℕ) (why : ScenarioWhy) → IsReached bytes line d text → IsWrongLine d text why → scenario_fault bytes ≡ Some (fault_at line why)
line_fault bytes line d text why reached wrong = stop_fault bytes line reached.front d why reached.size reached.number reached.lead (inr (text, reached.there, wrong))

statement_fault : (bytes : List ℕ) (line : ℕ) (d : Draft) (first : List ℕ) (words : List (List ℕ)) (why : ScenarioWhy) → IsStatement bytes line d first words → IsWrongBy d (kind_at d.phase first) words why
    → scenario_fault bytes ≡ Some (fault_at line why)
statement_fault bytes line d first words why h wrong =
    line_fault bytes line d h.text why h.reached (inr (record {
      allowed = h.allowed;
      kept = subst (λ (w : List (List ℕ)). is_skipped w ≡ false) (sym h.words_are) h.kept;
      wrong = inr (record { header = h.header; first = first; rest = words; words_are = h.words_are; wrong = wrong });
    }))

kind_fault : (bytes : List ℕ) (line : ℕ) (d : Draft) (kind : LineKind) (words : List (List ℕ)) (why : ScenarioWhy) → IsOfKind bytes line d kind words → IsWrong d kind words why → scenario_fault bytes ≡ Some (fault_at line why)
kind_fault bytes line d kind words why h wrong = statement_fault bytes line d h.first words why h.statement (inr (kind, h.kind_is, wrong))

unfit_fault : (bytes : List ℕ) (line : ℕ) (why : ScenarioWhy) → HasUnfitWord bytes line why → scenario_fault bytes ≡ Some (fault_at line why)
unfit_fault bytes line why h = kind_fault bytes line h.draft h.kind h.words why h.of_kind (inr (h.count, inl h.unfit))

word_fault : (bytes : List ℕ) (line : ℕ) → WordIsWrong bytes line → scenario_fault bytes ≡ Some (fault_at line Word)
word_fault bytes line said = elim said [
  | inl h ↦ statement_fault bytes line h.draft h.first h.words Word h.statement (inl (h.strange, refl))
  | inr more ↦ elim more [
    | inl h ↦ kind_fault bytes line h.draft h.kind h.words Word h.of_kind (inl (h.count, refl))
    | inr h ↦ unfit_fault bytes line Word h
  ]
]

-- there is a word for each slot where each is right
fit_count : (d : Draft) (slots : List Slot) (words : List (List ℕ)) → AreFit d slots words → length words ≡ length slots
fit_count d [] [] fit = refl
fit_count d [] (word ∷ words) fit = absurd fit
fit_count d (slot ∷ slots) [] fit = absurd fit
fit_count d (slot ∷ slots) (word ∷ words) fit = ap suc (fit_count d slots words fit.1)

many_fault : (bytes : List ℕ) (line : ℕ) → LineIsOneTooMany bytes line → scenario_fault bytes ≡ Some (fault_at line TooMany)
many_fault bytes line h = kind_fault bytes line h.draft h.kind h.words TooMany h.of_kind (inr (fit_count h.draft (slots_of h.kind) h.words h.fit, inr (h.fit, (h.no_room, refl))))

no_header : (text : List ℕ) → IsNoHeader text → is_header (words_of text) ≡ false
no_header text h = false_from_ne_true (is_header (words_of text)) (λ same. h.other (header_is (words_of text) same))

header_fault : (bytes : List ℕ) (line : ℕ) → HeaderIsMissing bytes line → scenario_fault bytes ≡ Some (fault_at line Header)
header_fault bytes line h =
    let lead = passed_lead (take h.front (lines_of bytes)) start h.passed in
    stop_fault bytes line h.front start Header h.size h.number lead (elim h.missing [
      | inl last ↦ inl (last, refl)
      | inr there ↦ inr (there.0, there.1, inr (record { allowed = there.2.allowed; kept = there.2.kept; wrong = inl (refl, no_header there.0 there.2, refl) }))
    ])

open_end : (p : Phase) → IsOpen p → IsWrongEnd p MissingEnd
open_end Headed unfinished = refl
open_end Clustered unfinished = refl
open_end InBody unfinished = refl
open_end Start unfinished = absurd unfinished
open_end _ unfinished = absurd unfinished

end_fault : (bytes : List ℕ) (line : ℕ) → EndIsMissing bytes line → scenario_fault bytes ≡ Some (fault_at line MissingEnd)
end_fault bytes line h =
    stop_fault bytes line (length (lines_of bytes)) h.draft MissingEnd h.size h.number (rw (take-length (lines_of bytes)) h.lead) (inl (refl, open_end h.draft.phase h.unfinished))

large_fault : (bytes : List ℕ) (line : ℕ) → TextIsTooLarge bytes line → scenario_fault bytes ≡ Some (fault_at line TooLarge)
large_fault bytes line h =
    let large : nat_lt 1048576 (length bytes) ≡ true = lt-ltb 1048576 (length bytes) h.size in
    rw (large, h.whole) refl

said_fault : (why : ScenarioWhy) (bytes : List ℕ) (line : ℕ) → Said why bytes line → scenario_fault bytes ≡ Some (fault_at line why)
said_fault Header bytes line said = header_fault bytes line said
said_fault Word bytes line said = word_fault bytes line said
said_fault Number bytes line said = unfit_fault bytes line Number said
said_fault Range bytes line said = unfit_fault bytes line Range said
said_fault UnknownName bytes line said = unfit_fault bytes line UnknownName said
said_fault Repeated bytes line said = unfit_fault bytes line Repeated said
said_fault TooMany bytes line said = many_fault bytes line said
said_fault MissingEnd bytes line said = end_fault bytes line said
said_fault NotAscii bytes line said = line_fault bytes line said.draft said.text NotAscii said.reached (inl (said.unallowed, refl))
said_fault TooLarge bytes line said = large_fault bytes line said

-- ---- the laws

fault_said : (why : ScenarioWhy) (bytes : List ℕ) (line : ℕ) → scenario_fault bytes ≡ Some (fault_at line why) → Said why bytes line
fault_said why bytes line e =
    elim (size_faults (nat_lt 1048576 (length bytes)) (record { line = 0; why = TooLarge }) (fault_at line why) (verdict_from start 1 (lines_of bytes)) e) [
      | inl t ↦
          let whole : line ≡ 0 = ap (λ (x : Fault). x.line) t.1 in
          let large : TooLarge ≡ why = sym (ap (λ (x : Fault). x.why) t.1) in
          subst (λ (w : ScenarioWhy). Said w bytes line) large (record { size = ltb-true 1048576 (length bytes) t.0; whole = whole })
      | inr t ↦ stop_said why bytes line (ltb-false 1048576 (length bytes) t.0) (stops_told (lines_of bytes) start 1 line why named_start t.1)
    ]

-- each reason comes where it is said to come
pub comes_where : (why : ScenarioWhy) → ComesExactlyWhere why (Said why)
comes_where why bytes line = (fault_said why bytes line, said_fault why bytes line)
