-- What the machine takes tells a scenario: each of its steps leads back from what the lines after it complete.
use Rattle.std.proofs.Common.{◌≡◌, ℕ, ◌+◌, ◌≤◌, ◌<◌, true, false, cond, not, inl, inr, List, [], ◌∷◌, ◌++◌, length, Option, Some, None, Result, Ok, Err, codes, refl, sym, ap, subst, ◌∙◌, append_assoc, arith, length-append}
use Rattle.std.specs.Prelude.{nat_lt, is_some}
use Rattle.std.specs.Str.{bytes_eq}
use Rattle.std.proofs.lemmas.Bool.{and_parts, ltb-true, not-false}
use Rattle.std.proofs.lemmas.List.{append-nil}
use Rattle.rk_model.specs.declared.scenario.Op.{Op}
use Rattle.rk_model.specs.declared.scenario.Body.{Body}
use Rattle.rk_model.specs.declared.scenario.Init.{Init}
use Rattle.rk_model.specs.declared.scenario.Scenario.{Scenario}
use Rattle.rk_model.specs.declared.scenario.ScenarioWhy.{ScenarioWhy}
use Rattle.rk_model.specs.declared.scenario.ScenarioWhy.TheVariants.{Header, Word, Repeated, TooMany}
use Rattle.rk_model.specs.Text.Words.{is_body_name}
use Rattle.rk_model.specs.Text.Scenarios.{AreDistinct, IsBody, IsInit, body_of, cpus_in}
use Rattle.rk_model.specs.Text.Reading.{Phase, Start, Headed, Clustered, Timed, Limited, InBody, InInits, Draft, number_operand, known_at, op_line, init_operands, is_header, is_end, with_cluster, with_body, with_op, with_init, cluster_line, ticks_line, limit_line, body_line, inner_line, init_line, at_start, at_headed, at_clustered, at_timed, at_limited, at_inits, in_body, after_statement}
use Rattle.rk_scenario.proofs.SpellingLemmas.{bind_ok, then_ok, else_ok, branch_ok, ok_is, text_is, number_ok, init_ok}
use Rattle.rk_scenario.proofs.OperandLemmas.{op_ok}
use Rattle.rk_scenario.proofs.NumberLemmas.{has_room, few_with, few_cpus_with}
use Rattle.rk_scenario.proofs.BodyNameLemmas.{distinct_more}
use Rattle.rk_scenario.proofs.LeftLinesLemmas.{InitsLeft, BodiesLeft, BodyLeft, LimitLeft, ClustersLeft, ClusterLeft, Completes, draft_at, ends, IsInit-kept}

-- the place of the open body among the bodies
abbrev pub opened : Phase → ℕ
opened Start = 0
opened Headed = 0
opened Clustered = 0
opened Timed = 0
opened Limited = 0
opened InBody = 1
opened InInits = 0

-- the open body has a name that no body has
abbrev pub IsFresh : Phase → List Body → List ℕ → Type 0
IsFresh Start bodies name = Unit {0}
IsFresh Headed bodies name = Unit {0}
IsFresh Clustered bodies name = Unit {0}
IsFresh Timed bodies name = Unit {0}
IsFresh Limited bodies name = Unit {0}
IsFresh InBody bodies name = body_of bodies name ≡ None
IsFresh InInits bodies name = Unit {0}

-- no cluster was read so far
abbrev pub IsAlone : Phase → List ℕ → Type 0
IsAlone Start clusters = clusters ≡ []
IsAlone Headed clusters = clusters ≡ []
IsAlone Clustered clusters = Unit {0}
IsAlone Timed clusters = Unit {0}
IsAlone Limited clusters = Unit {0}
IsAlone InBody clusters = Unit {0}
IsAlone InInits clusters = Unit {0}

-- what a draft keeps
pub record Keeps (p : Phase) (b : Scenario) (o : Body) : Type 0 where
  pub alone : IsAlone p b.clusters
  pub clusters : length b.clusters ≤ 4
  pub cpus : cpus_in b.clusters ≤ 8
  pub bodies : length b.bodies + opened p ≤ 32
  pub distinct : AreDistinct b.bodies
  pub fresh : IsFresh p b.bodies o.name
  pub lines : length o.lines ≤ 1000
  pub inits : length b.inits ≤ 64

-- The step by these words to a draft keeps what drafts keep, and what completes the draft completes, behind these words, the one before.
pub record IsSound (p : Phase) (b : Scenario) (o : Body) (words : List (List ℕ)) (next : Draft) : Type 0 where
  pub keeps : Keeps next.phase next.scenario next.body
  pub back : (statements : List (List (List ℕ))) (s : Scenario) → Completes next.phase next.scenario next.body statements s → Completes p b o (words ∷ statements) s

-- ---- the header

pub header_is : (words : List (List ℕ)) → is_header words ≡ true → words ≡ codes "rtems" ∷ codes "1" ∷ []
unfolding is_header
header_is [] e = absurd cc
header_is (first ∷ []) e = absurd cc
header_is (first ∷ second ∷ []) e =
    let both = and_parts (bytes_eq first (codes "rtems")) (bytes_eq second (codes "1")) e in
    rw (text_is first (codes "rtems") both.0, text_is second (codes "1") both.1) refl
header_is (first ∷ second ∷ third ∷ words) e = absurd cc

start_sound : (b : Scenario) (o : Body) (words : List (List ℕ)) (next : Draft) → at_start (draft_at Start b o) words ≡ Ok next → Keeps Start b o → IsSound Start b o words next
start_sound b o words next e keeps =
    let t = then_ok (is_header words) (Ok (draft_at Headed b o)) Header next e in
    let is = header_is words t.0 in
    subst (λ (x : Draft). IsSound Start b o words x) (ok_is (draft_at Headed b o) next t.1) (record {
      keeps = record { alone = keeps.alone; clusters = keeps.clusters; cpus = keeps.cpus; bodies = keeps.bodies; distinct = keeps.distinct; fresh = tt; lines = keeps.lines; inits = keeps.inits };
      back = λ statements s left. record { rest = statements; statements_are = ap (λ (w : List (List ℕ)). w ∷ statements) is; after = left };
    })

-- ---- clusters and the ticks

-- A cluster may come after the header and after another cluster.
cluster_sound : (p : Phase) (b : Scenario) (o : Body) (operands : List (List ℕ)) (next : Draft) → cluster_line (draft_at p b o) operands ≡ Ok next → Keeps Clustered b o → IsSound Headed b o (codes "cluster" ∷ operands) next
unfolding cluster_line
cluster_sound p b o [] next e keeps = absurd cc
cluster_sound p b o (count ∷ []) next e keeps =
    let d = draft_at p b o in
    let m = bind_ok (number_operand 1 8 count) (λ m. cond (has_room b.clusters m) (Ok (with_cluster d m)) (Err TooMany)) next e in
    let t = then_ok (has_room b.clusters m.0) (Ok (with_cluster d m.0)) TooMany next m.2 in
    subst (λ (x : Draft). IsSound Headed b o (codes "cluster" ∷ count ∷ []) x) (ok_is (with_cluster d m.0) next t.1) (record {
      keeps = record {
        alone = tt;
        clusters = few_with b.clusters m.0 t.0;
        cpus = few_cpus_with b.clusters m.0 t.0;
        bodies = keeps.bodies;
        distinct = keeps.distinct;
        fresh = tt;
        lines = keeps.lines;
        inits = keeps.inits;
      };
      back = λ statements s left. record {
        cluster = codes "cluster" ∷ count ∷ [];
        rest = statements;
        statements_are = refl;
        cpus = m.0;
        is = (count, refl, number_ok 1 8 count m.0 m.1);
        after = left;
      };
    })
cluster_sound p b o (count ∷ more ∷ words) next e keeps = absurd cc

headed_sound : (p : Phase) (b : Scenario) (o : Body) (words : List (List ℕ)) (next : Draft) → at_headed (draft_at p b o) words ≡ Ok next → Keeps Clustered b o → IsSound Headed b o words next
headed_sound p b o [] next e keeps = absurd cc
headed_sound p b o (first ∷ operands) next e keeps =
    let t = then_ok (bytes_eq first (codes "cluster")) (cluster_line (draft_at p b o) operands) Word next e in
    rw (text_is first (codes "cluster") t.0) (cluster_sound p b o operands next t.1 keeps)

-- one cluster more may come before others
clusters_cons : (b : Scenario) (statements : List (List (List ℕ))) (s : Scenario) → ClusterLeft b statements s → ClustersLeft b statements s
clusters_cons b statements s left =
    let join : (b.clusters ++ left.cpus ∷ []) ++ left.after.more ≡ b.clusters ++ left.cpus ∷ left.after.more = append_assoc b.clusters (left.cpus ∷ []) left.after.more in
    record {
      clusters = left.cluster ∷ left.after.clusters;
      ticks = left.after.ticks;
      rest = left.after.rest;
      statements_are = left.statements_are ∙ ap (λ (x : List (List (List ℕ))). left.cluster ∷ x) left.after.statements_are;
      more = left.cpus ∷ left.after.more;
      clusters_are = (left.is, left.after.clusters_are);
      few = subst (λ (x : List ℕ). length x ≤ 4) join left.after.few;
      few_cpus = subst (λ (x : List ℕ). cpus_in x ≤ 8) join left.after.few_cpus;
      horizon = left.after.horizon;
      ticks_are = left.after.ticks_are;
      after = subst (λ (x : List ℕ). LimitLeft (record b { clusters = x; horizon = left.after.horizon }) left.after.rest s) join left.after.after;
    }

ticks_sound : (b : Scenario) (o : Body) (operands : List (List ℕ)) (next : Draft) → ticks_line (draft_at Clustered b o) operands ≡ Ok next → Keeps Clustered b o → IsSound Clustered b o (codes "ticks" ∷ operands) next
unfolding ticks_line
ticks_sound b o [] next e keeps = absurd cc
ticks_sound b o (ticks ∷ []) next e keeps =
    let after : ℕ → Draft = λ n. draft_at Timed (record b { horizon = n }) o in
    let n = bind_ok (number_operand 0 1000000 ticks) (λ n. Ok (after n)) next e in
    let none : b.clusters ++ [] ≡ b.clusters = append-nil b.clusters in
    subst (λ (x : Draft). IsSound Clustered b o (codes "ticks" ∷ ticks ∷ []) x) (ok_is (after n.0) next n.2) (record {
      keeps = record { alone = tt; clusters = keeps.clusters; cpus = keeps.cpus; bodies = keeps.bodies; distinct = keeps.distinct; fresh = tt; lines = keeps.lines; inits = keeps.inits };
      back = λ statements s left. record {
        clusters = [];
        ticks = codes "ticks" ∷ ticks ∷ [];
        rest = statements;
        statements_are = refl;
        more = [];
        clusters_are = tt;
        few = subst (λ (x : List ℕ). length x ≤ 4) (sym none) keeps.clusters;
        few_cpus = subst (λ (x : List ℕ). cpus_in x ≤ 8) (sym none) keeps.cpus;
        horizon = n.0;
        ticks_are = record { ticks = ticks; words_are = refl; number = number_ok 0 1000000 ticks n.0 n.1 };
        after = subst (λ (x : List ℕ). LimitLeft (record b { clusters = x; horizon = n.0 }) statements s) (sym none) left;
      };
    })
ticks_sound b o (ticks ∷ more ∷ words) next e keeps = absurd cc

clustered_sound : (b : Scenario) (o : Body) (words : List (List ℕ)) (next : Draft) → at_clustered (draft_at Clustered b o) words ≡ Ok next → Keeps Clustered b o → IsSound Clustered b o words next
clustered_sound b o [] next e keeps = absurd cc
clustered_sound b o (first ∷ operands) next e keeps =
    elim (branch_ok (bytes_eq first (codes "ticks")) (ticks_line (draft_at Clustered b o) operands) (at_headed (draft_at Clustered b o) (first ∷ operands)) next e) [
      | inl t ↦ rw (text_is first (codes "ticks") t.0) (ticks_sound b o operands next t.1 keeps)
      | inr t ↦
          let h = headed_sound Clustered b o (first ∷ operands) next t.1 keeps in
          record { keeps = h.keeps; back = λ statements s left. clusters_cons b ((first ∷ operands) ∷ statements) s (h.back statements s left) }
    ]

-- ---- init lines

inits_cons : (b : Scenario) (words : List (List ℕ)) (init : Init) (statements : List (List (List ℕ))) (s : Scenario) → IsInit b words init
    → InitsLeft (record b { inits = b.inits ++ init ∷ [] }) statements s → InitsLeft b (words ∷ statements) s
inits_cons b words init statements s is left =
    let whole : s ≡ record b { inits = b.inits ++ init ∷ left.more } = left.whole ∙ ap (λ (x : List Init). record b { inits = x }) (append_assoc b.inits (init ∷ []) left.more) in
    let is-s : IsInit s words init = subst (λ (x : Scenario). IsInit x words init) (sym whole) (IsInit-kept b (b.inits ++ init ∷ left.more) words init is) in
    record { more = init ∷ left.more; lines = (is-s, left.lines); few = left.few; whole = whole }

bodies_of_inits : (b : Scenario) (statements : List (List (List ℕ))) (s : Scenario) → AreDistinct b.bodies → length b.bodies ≤ 32 → InitsLeft b statements s → BodiesLeft b statements s
bodies_of_inits b statements s distinct few left = record {
  bodies = [];
  inits = statements;
  statements_are = refl;
  more = [];
  bodies_are = refl;
  few = subst (λ (x : Scenario). length x.bodies ≤ 32) (sym left.whole) few;
  distinct = subst (λ (x : Scenario). AreDistinct x.bodies) (sym left.whole) distinct;
  after = subst (λ (x : List Body). InitsLeft (record b { bodies = x }) statements s) (sym (append-nil b.bodies)) left;
}

-- what is known after an init line, whichever of two phases it came at
record AfterInit (b : Scenario) (o : Body) (words : List (List ℕ)) (next : Draft) : Type 0 where
  init : Init
  is : IsInit b words init
  next_is : draft_at InInits (record b { inits = b.inits ++ init ∷ [] }) o ≡ next
  room : length b.inits < 64

after_init_line : (p : Phase) (b : Scenario) (o : Body) (operands : List (List ℕ)) (next : Draft) → init_line (draft_at p b o) operands ≡ Ok next → AfterInit b o (codes "init" ∷ operands) next
unfolding init_line
after_init_line p b o operands next e =
    let i = bind_ok (init_operands b operands) (λ init. cond (nat_lt (length b.inits) 64) (Ok (with_init (draft_at p b o) init)) (Err TooMany)) next e in
    let r = then_ok (nat_lt (length b.inits) 64) (Ok (with_init (draft_at p b o) i.0)) TooMany next i.2 in
    record {
      init = i.0;
      is = init_ok b operands i.0 i.1;
      next_is = ok_is (with_init (draft_at p b o) i.0) next r.1;
      room = ltb-true (length b.inits) 64 r.0;
    }

after_init : (p : Phase) (b : Scenario) (o : Body) (words : List (List ℕ)) (next : Draft) → at_inits (draft_at p b o) words ≡ Ok next → AfterInit b o words next
after_init p b o [] next e = absurd cc
after_init p b o (first ∷ operands) next e =
    let t = then_ok (bytes_eq first (codes "init")) (init_line (draft_at p b o) operands) Word next e in
    rw (text_is first (codes "init") t.0) (after_init_line p b o operands next t.1)

init_keeps : (b : Scenario) (o : Body) (init : Init) → length b.inits < 64 → Keeps InInits b o → Keeps InInits (record b { inits = b.inits ++ init ∷ [] }) o
init_keeps b o init room keeps = record {
  alone = tt;
  clusters = keeps.clusters;
  cpus = keeps.cpus;
  bodies = keeps.bodies;
  distinct = keeps.distinct;
  fresh = tt;
  lines = keeps.lines;
  inits = omega (arith, length-append b.inits (init ∷ []));
}

-- An init line may come after the ticks, after the limit or a body, and after another.
inits_sound : (p : Phase) (b : Scenario) (o : Body) (words : List (List ℕ)) (next : Draft) → at_inits (draft_at p b o) words ≡ Ok next → Keeps InInits b o → IsSound InInits b o words next
inits_sound p b o words next e keeps =
    let a = after_init p b o words next e in
    subst (λ (x : Draft). IsSound InInits b o words x) a.next_is (record {
      keeps = init_keeps b o a.init a.room keeps;
      back = λ statements s left. inits_cons b words a.init statements s a.is left;
    })

-- ---- bodies

bodies_cons : (b : Scenario) (body : Body) (first statements : List (List (List ℕ))) (s : Scenario) → IsBody (length b.clusters) b.bodies first body
    → BodiesLeft (record b { bodies = b.bodies ++ body ∷ [] }) statements s → BodiesLeft b (first ++ statements) s
bodies_cons b body first statements s is left = record {
  bodies = first ++ left.bodies;
  inits = left.inits;
  statements_are = ap (λ (x : List (List (List ℕ))). first ++ x) left.statements_are ∙ sym (append_assoc first left.bodies left.inits);
  more = body ∷ left.more;
  bodies_are = (first, left.bodies, refl, is, left.bodies_are);
  few = left.few;
  distinct = left.distinct;
  after = subst (λ (x : List Body). InitsLeft (record b { bodies = x }) left.inits s) (append_assoc b.bodies (body ∷ []) left.more) left.after;
}

body_cons : (b : Scenario) (name : List ℕ) (statements : List (List (List ℕ))) (s : Scenario) → is_body_name name ≡ true
    → BodyLeft b (record { name = name; lines = [] }) statements s → BodiesLeft b ((codes "body" ∷ name ∷ []) ∷ statements) s
body_cons b name statements s named left =
    let line : List (List ℕ) = codes "body" ∷ name ∷ [] in
    let end : List (List (List ℕ)) = (codes "end" ∷ []) ∷ [] in
    let first : List (List (List ℕ)) = line ∷ left.inner ++ end in
    let body : Body = record { name = name; lines = left.more } in
    let is : IsBody (length b.clusters) b.bodies first body = record { inner = left.inner; statements_are = refl; name = named; few = left.few; ops = left.lines } in
    let whole : line ∷ statements ≡ first ++ left.rest = ap (λ (x : List (List (List ℕ))). line ∷ x) (left.statements_are ∙ sym (append_assoc left.inner end left.rest)) in
    subst (λ (x : List (List (List ℕ))). BodiesLeft b x s) (sym whole) (bodies_cons b body first left.rest s is left.after)

unknown_from : (o : Option ℕ) → is_some o ≡ false → o ≡ None
unknown_from None e = refl
unknown_from (Some n) e = absurd cc

body_sound : (p : Phase) (b : Scenario) (o : Body) (operands : List (List ℕ)) (next : Draft) → body_line (draft_at p b o) operands ≡ Ok next → Keeps Limited b o → IsSound Limited b o (codes "body" ∷ operands) next
unfolding body_line
body_sound p b o [] next e keeps = absurd cc
body_sound p b o (name ∷ []) next e keeps =
    let open_one : Body = record { name = name; lines = [] } in
    let third : Result Draft ScenarioWhy = cond (nat_lt (length b.bodies) 32) (Ok (draft_at InBody b open_one)) (Err TooMany) in
    let second : Result Draft ScenarioWhy = cond (is_some (body_of b.bodies name)) (Err Repeated) third in
    let n = else_ok (not (is_body_name name)) Word second next e in
    let k = else_ok (is_some (body_of b.bodies name)) Repeated third next n.1 in
    let r = then_ok (nat_lt (length b.bodies) 32) (Ok (draft_at InBody b open_one)) TooMany next k.1 in
    let room : length b.bodies < 32 = ltb-true (length b.bodies) 32 r.0 in
    let named : is_body_name name ≡ true = not-false (is_body_name name) n.0 in
    subst (λ (x : Draft). IsSound Limited b o (codes "body" ∷ name ∷ []) x) (ok_is (draft_at InBody b open_one) next r.1) (record {
      keeps = record { alone = tt; clusters = keeps.clusters; cpus = keeps.cpus; bodies = omega arith; distinct = keeps.distinct; fresh = unknown_from (body_of b.bodies name) k.0; lines = omega arith; inits = keeps.inits };
      back = λ statements s left. body_cons b name statements s named left;
    })
body_sound p b o (name ∷ more ∷ words) next e keeps = absurd cc

-- A body may come after the ticks, and after the limit or another body; so may what follows the bodies.
limited_sound : (p : Phase) (b : Scenario) (o : Body) (words : List (List ℕ)) (next : Draft) → at_limited (draft_at p b o) words ≡ Ok next → Keeps Limited b o → IsSound Limited b o words next
limited_sound p b o [] next e keeps = absurd cc
limited_sound p b o (first ∷ operands) next e keeps =
    elim (branch_ok (bytes_eq first (codes "body")) (body_line (draft_at p b o) operands) (at_inits (draft_at p b o) (first ∷ operands)) next e) [
      | inl t ↦ rw (text_is first (codes "body") t.0) (body_sound p b o operands next t.1 keeps)
      | inr t ↦
          let last : Keeps InInits b o = record { alone = tt; clusters = keeps.clusters; cpus = keeps.cpus; bodies = keeps.bodies; distinct = keeps.distinct; fresh = tt; lines = keeps.lines; inits = keeps.inits } in
          let i = inits_sound p b o (first ∷ operands) next t.1 last in
          record { keeps = i.keeps; back = λ statements s left. bodies_of_inits b ((first ∷ operands) ∷ statements) s keeps.distinct (omega (arith, keeps.bodies)) (i.back statements s left) }
    ]

-- ---- the limit

-- no limit may come before bodies
limit_of_bodies : (b : Scenario) (statements : List (List (List ℕ))) (s : Scenario) → BodiesLeft b statements s → LimitLeft b statements s
limit_of_bodies b statements s left = record { limits = []; rest = statements; statements_are = refl; limit = b.limit; sets = refl; after = left }

limit_sound : (b : Scenario) (o : Body) (operands : List (List ℕ)) (next : Draft) → limit_line (draft_at Timed b o) operands ≡ Ok next → Keeps Timed b o → IsSound Timed b o (codes "limit" ∷ operands) next
unfolding limit_line
limit_sound b o [] next e keeps = absurd cc
limit_sound b o (number ∷ []) next e keeps =
    let after : ℕ → Draft = λ n. draft_at Limited (record b { limit = n }) o in
    let n = bind_ok (number_operand 1 1000000 number) (λ n. Ok (after n)) next e in
    subst (λ (x : Draft). IsSound Timed b o (codes "limit" ∷ number ∷ []) x) (ok_is (after n.0) next n.2) (record {
      keeps = record { alone = tt; clusters = keeps.clusters; cpus = keeps.cpus; bodies = keeps.bodies; distinct = keeps.distinct; fresh = tt; lines = keeps.lines; inits = keeps.inits };
      back = λ statements s left. record {
        limits = (codes "limit" ∷ number ∷ []) ∷ [];
        rest = statements;
        statements_are = refl;
        limit = n.0;
        sets = (number, refl, number_ok 1 1000000 number n.0 n.1);
        after = left;
      };
    })
limit_sound b o (number ∷ more ∷ words) next e keeps = absurd cc

timed_sound : (b : Scenario) (o : Body) (words : List (List ℕ)) (next : Draft) → at_timed (draft_at Timed b o) words ≡ Ok next → Keeps Timed b o → IsSound Timed b o words next
timed_sound b o [] next e keeps = absurd cc
timed_sound b o (first ∷ operands) next e keeps =
    elim (branch_ok (bytes_eq first (codes "limit")) (limit_line (draft_at Timed b o) operands) (at_limited (draft_at Timed b o) (first ∷ operands)) next e) [
      | inl t ↦ rw (text_is first (codes "limit") t.0) (limit_sound b o operands next t.1 keeps)
      | inr t ↦
          let limited : Keeps Limited b o = record { alone = tt; clusters = keeps.clusters; cpus = keeps.cpus; bodies = keeps.bodies; distinct = keeps.distinct; fresh = tt; lines = keeps.lines; inits = keeps.inits } in
          let l = limited_sound Timed b o (first ∷ operands) next t.1 limited in
          record { keeps = l.keeps; back = λ statements s left. limit_of_bodies b ((first ∷ operands) ∷ statements) s (l.back statements s left) }
    ]

-- ---- lines of a body

end_is : (words : List (List ℕ)) → is_end words ≡ true → words ≡ codes "end" ∷ []
unfolding is_end
end_is [] e = absurd cc
end_is (first ∷ []) e = rw (text_is first (codes "end") e) refl
end_is (first ∷ second ∷ words) e = absurd cc

end_sound : (b : Scenario) (o : Body) (words : List (List ℕ)) → is_end words ≡ true → Keeps InBody b o → IsSound InBody b o words (with_body (draft_at InBody b o))
end_sound b o words e keeps = record {
  keeps = record {
    alone = tt;
    clusters = keeps.clusters;
    cpus = keeps.cpus;
    bodies = omega (arith, length-append b.bodies (o ∷ []), keeps.bodies);
    distinct = distinct_more b.bodies o keeps.distinct keeps.fresh;
    fresh = tt;
    lines = omega arith;
    inits = keeps.inits;
  };
  back = λ statements s left. record {
    inner = [];
    rest = statements;
    statements_are = ap (λ (x : List (List ℕ)). x ∷ statements) (end_is words e);
    more = [];
    lines = tt;
    few = subst (λ (x : List Op). length x ≤ 1000) (sym (append-nil o.lines)) keeps.lines;
    after = subst (λ (x : List Op). BodiesLeft (record b { bodies = b.bodies ++ (record o { lines = x }) ∷ [] }) statements s) (sym (append-nil o.lines)) left;
  };
}

inner_sound : (b : Scenario) (o : Body) (words : List (List ℕ)) (next : Draft) → inner_line (draft_at InBody b o) words ≡ Ok next → Keeps InBody b o → IsSound InBody b o words next
unfolding inner_line
inner_sound b o words next e keeps =
    let d = draft_at InBody b o in
    let op = bind_ok (op_line (known_at b o) words) (λ op. cond (nat_lt (length o.lines) 1000) (Ok (with_op d op)) (Err TooMany)) next e in
    let r = then_ok (nat_lt (length o.lines) 1000) (Ok (with_op d op.0)) TooMany next op.2 in
    let room : length o.lines < 1000 = ltb-true (length o.lines) 1000 r.0 in
    subst (λ (x : Draft). IsSound InBody b o words x) (ok_is (with_op d op.0) next r.1) (record {
      keeps = record { alone = tt; clusters = keeps.clusters; cpus = keeps.cpus; bodies = keeps.bodies; distinct = keeps.distinct; fresh = keeps.fresh; lines = omega (arith, length-append o.lines (op.0 ∷ [])); inits = keeps.inits };
      back = λ statements s left.
          let join = append_assoc o.lines (op.0 ∷ []) left.more in
          record {
            inner = words ∷ left.inner;
            rest = left.rest;
            statements_are = ap (λ (x : List (List (List ℕ))). words ∷ x) left.statements_are;
            more = op.0 ∷ left.more;
            lines = (op_ok (known_at b o) words op.0 op.1, left.lines);
            few = subst (λ (x : List Op). length x ≤ 1000) join left.few;
            after = subst (λ (x : List Op). BodiesLeft (record b { bodies = b.bodies ++ (record o { lines = x }) ∷ [] }) left.rest s) join left.after;
          };
    })

body_lines_sound : (b : Scenario) (o : Body) (words : List (List ℕ)) (next : Draft) → in_body (draft_at InBody b o) words ≡ Ok next → Keeps InBody b o → IsSound InBody b o words next
body_lines_sound b o words next e keeps =
    elim (branch_ok (is_end words) (Ok (with_body (draft_at InBody b o))) (inner_line (draft_at InBody b o) words) next e) [
      | inl t ↦ subst (λ (x : Draft). IsSound InBody b o words x) (ok_is (with_body (draft_at InBody b o)) next t.1) (end_sound b o words t.0 keeps)
      | inr t ↦ inner_sound b o words next t.1 keeps
    ]

-- ---- all steps, and the end

-- each step that the machine takes is sound
pub step_sound : (p : Phase) (b : Scenario) (o : Body) (words : List (List ℕ)) (next : Draft) → after_statement p (draft_at p b o) words ≡ Ok next → Keeps p b o → IsSound p b o words next
step_sound Start b o words next e keeps = start_sound b o words next e keeps
step_sound Headed b o words next e keeps =
    let clustered : Keeps Clustered b o = record { alone = tt; clusters = keeps.clusters; cpus = keeps.cpus; bodies = keeps.bodies; distinct = keeps.distinct; fresh = tt; lines = keeps.lines; inits = keeps.inits } in
    headed_sound Headed b o words next e clustered
step_sound Clustered b o words next e keeps = clustered_sound b o words next e keeps
step_sound Timed b o words next e keeps = timed_sound b o words next e keeps
step_sound Limited b o words next e keeps = limited_sound Limited b o words next e keeps
step_sound InBody b o words next e keeps = body_lines_sound b o words next e keeps
step_sound InInits b o words next e keeps = inits_sound InInits b o words next e keeps

none_left : (b : Scenario) → length b.inits ≤ 64 → InitsLeft b [] b
none_left b few = record {
  more = [];
  lines = tt;
  few = few;
  whole = sym (ap (λ (x : List Init). record b { inits = x }) (append-nil b.inits));
}

-- what was read is complete where it may end
pub end_sound_at : (p : Phase) (b : Scenario) (o : Body) (s : Scenario) → ends p b ≡ Some s → Keeps p b o → Completes p b o [] s
end_sound_at Start b o s e keeps = absurd cc
end_sound_at Headed b o s e keeps = absurd cc
end_sound_at Clustered b o s e keeps = absurd cc
end_sound_at Timed b o s e keeps =
    let is : b ≡ s = cc in
    subst (λ (x : Scenario). LimitLeft b [] x) is (limit_of_bodies b [] b (bodies_of_inits b [] b keeps.distinct (omega (arith, keeps.bodies)) (none_left b keeps.inits)))
end_sound_at Limited b o s e keeps =
    let is : b ≡ s = cc in
    subst (λ (x : Scenario). BodiesLeft b [] x) is (bodies_of_inits b [] b keeps.distinct (omega (arith, keeps.bodies)) (none_left b keeps.inits))
end_sound_at InBody b o s e keeps = absurd cc
end_sound_at InInits b o s e keeps = let is : b ≡ s = cc in subst (λ (x : Scenario). InitsLeft b [] x) is (none_left b keeps.inits)
