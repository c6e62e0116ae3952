-- What tells a scenario is taken by the machine: each line of what completes a draft is a step to a draft that the rest completes.
use Rattle.std.proofs.Common.{◌≡◌, ℕ, ◌≤◌, true, false, List, [], ◌∷◌, ◌++◌, length, Some, None, Ok, codes, refl, sym, ap, subst, ◌∙◌, append_assoc, arith, length-append}
use Rattle.std.specs.Prelude.{nat_lt}
use Rattle.std.specs.Str.{bytes_eq}
use Rattle.std.proofs.lemmas.Bool.{lt-ltb}
use Rattle.std.proofs.lemmas.List.{append-nil}
use Rattle.rk_model.specs.declared.scenario.Op.{Op}
use Rattle.rk_model.specs.declared.scenario.Body.{Body}
use Rattle.rk_model.specs.declared.scenario.Init.{Init}
use Rattle.rk_model.specs.declared.scenario.Scenario.{Scenario}
use Rattle.rk_model.specs.Text.Scenarios.{AreOps, AreClusters, cpus_in, IsTicks, AreBodies, AreDistinct, AreInits, IsInit, body_of}
use Rattle.rk_model.specs.Text.Reading.{Phase, Start, Headed, Clustered, Timed, Limited, InBody, InInits, Draft, no_body, known_at, op_line, init_operands, is_header, is_end, cluster_line, ticks_line, limit_line, body_line, inner_line, init_line, at_limited, after_statement}
use Rattle.rk_scenario.proofs.SpellingLemmas.{number_is, init_is}
use Rattle.rk_scenario.proofs.OperandLemmas.{op_is, op_not_end}
use Rattle.rk_scenario.proofs.NumberLemmas.{room_for}
use Rattle.rk_scenario.proofs.BodyNameLemmas.{unknown_before}
use Rattle.rk_scenario.proofs.LeftLinesLemmas.{InitsLeft, BodiesLeft, SetsLimit, LimitLeft, ClusterLeft, HeaderLeft, Completes, draft_at, ends, init_operands-kept}

-- The machine takes these words, to a draft that the lines after them complete.
pub record IsTaken (p : Phase) (b : Scenario) (o : Body) (words : List (List ℕ)) (statements : List (List (List ℕ))) (s : Scenario) : Type 0 where
  pub next : Draft
  pub taken : after_statement p (draft_at p b o) words ≡ Ok next
  pub left : Completes next.phase next.scenario next.body statements s

-- ---- the header, clusters and the ticks

start_taken : (b : Scenario) (o : Body) (words : List (List ℕ)) (statements : List (List (List ℕ))) (s : Scenario) → HeaderLeft b (words ∷ statements) s → IsTaken Start b o words statements s
unfolding is_header
start_taken b o words statements s h =
    let word : words ≡ codes "rtems" ∷ codes "1" ∷ [] = cc (h.statements_are) in
    let rest : statements ≡ h.rest = cc (h.statements_are) in
    record { next = draft_at Headed b o; taken = rw word refl; left = rw rest h.after }

-- a cluster at one of two phases
record IsClusterTaken (p : Phase) (b : Scenario) (o : Body) (words : List (List ℕ)) (statements : List (List (List ℕ))) (s : Scenario) : Type 0 where
  next : Draft
  count : List ℕ
  word : words ≡ codes "cluster" ∷ count ∷ []
  taken : cluster_line (draft_at p b o) (count ∷ []) ≡ Ok next
  left : Completes next.phase next.scenario next.body statements s

cluster_taken : (p : Phase) (b : Scenario) (o : Body) (words : List (List ℕ)) (statements : List (List (List ℕ))) (s : Scenario) → ClusterLeft b (words ∷ statements) s → IsClusterTaken p b o words statements s
unfolding cluster_line
cluster_taken p b o words statements s h =
    let count = h.is.0 in
    let rest : statements ≡ h.rest = cc (h.statements_are) in
    let number = number_is 1 8 count h.cpus h.is.2 in
    let room = room_for b.clusters h.cpus h.after.more h.after.few h.after.few_cpus in
    record {
      next = draft_at Clustered (record b { clusters = b.clusters ++ h.cpus ∷ [] }) o;
      count = count;
      word = cc (h.statements_are, h.is.1);
      taken = rw (number, room) refl;
      left = rw rest h.after;
    }

cluster_is_taken_first : (b : Scenario) (o : Body) (words : List (List ℕ)) (statements : List (List (List ℕ))) (s : Scenario) → IsClusterTaken Headed b o words statements s → IsTaken Headed b o words statements s
cluster_is_taken_first b o words statements s c = record {
  next = c.next;
  taken = subst (λ (x : List (List ℕ)). after_statement Headed (draft_at Headed b o) x ≡ Ok c.next) (sym c.word) c.taken;
  left = c.left;
}

cluster_is_taken_later : (b : Scenario) (o : Body) (words : List (List ℕ)) (statements : List (List (List ℕ))) (s : Scenario) → IsClusterTaken Clustered b o words statements s → IsTaken Clustered b o words statements s
cluster_is_taken_later b o words statements s c = record {
  next = c.next;
  taken = subst (λ (x : List (List ℕ)). after_statement Clustered (draft_at Clustered b o) x ≡ Ok c.next) (sym c.word) c.taken;
  left = c.left;
}

headed_taken : (b : Scenario) (o : Body) (words : List (List ℕ)) (statements : List (List (List ℕ))) (s : Scenario) → ClusterLeft b (words ∷ statements) s → IsTaken Headed b o words statements s
headed_taken b o words statements s h = cluster_is_taken_first b o words statements s (cluster_taken Headed b o words statements s h)

clustered_taken : (b : Scenario) (o : Body) (words : List (List ℕ)) (statements clusters : List (List (List ℕ))) (s : Scenario) (ticks : List (List ℕ)) (rest : List (List (List ℕ))) (more : List ℕ) (horizon : ℕ)
    → words ∷ statements ≡ clusters ++ ticks ∷ rest → AreClusters clusters more → length (b.clusters ++ more) ≤ 4 → cpus_in (b.clusters ++ more) ≤ 8 → IsTicks ticks horizon
    → LimitLeft (record b { clusters = b.clusters ++ more; horizon = horizon }) rest s → IsTaken Clustered b o words statements s
unfolding ticks_line
clustered_taken b o words statements [] s ticks rest [] horizon statements_are are few few_cpus ticks_are after =
    let word : words ≡ codes "ticks" ∷ ticks_are.ticks ∷ [] = cc (statements_are, ticks_are.words_are) in
    let is : statements ≡ rest = cc statements_are in
    let number = number_is 0 1000000 ticks_are.ticks horizon ticks_are.number in
    record {
      next = draft_at Timed (record b { horizon = horizon }) o;
      taken = rw (word, number) refl;
      left = rw is (subst (λ (x : List ℕ). LimitLeft (record b { clusters = x; horizon = horizon }) rest s) (append-nil b.clusters) after);
    }
clustered_taken b o words statements [] s ticks rest (cpus ∷ more) horizon statements_are are few few_cpus ticks_are after = absurd are
clustered_taken b o words statements (cluster ∷ clusters) s ticks rest [] horizon statements_are are few few_cpus ticks_are after = absurd are
clustered_taken b o words statements (cluster ∷ clusters) s ticks rest (cpus ∷ more) horizon statements_are are few few_cpus ticks_are after =
    let join : b.clusters ++ cpus ∷ more ≡ (b.clusters ++ cpus ∷ []) ++ more = sym (append_assoc b.clusters (cpus ∷ []) more) in
    cluster_is_taken_later b o words statements s (cluster_taken Clustered b o words statements s (record {
      cluster = cluster;
      rest = clusters ++ ticks ∷ rest;
      statements_are = statements_are;
      cpus = cpus;
      is = are.0;
      after = record {
        clusters = clusters;
        ticks = ticks;
        rest = rest;
        statements_are = refl;
        more = more;
        clusters_are = are.1;
        few = subst (λ (x : List ℕ). length x ≤ 4) join few;
        few_cpus = subst (λ (x : List ℕ). cpus_in x ≤ 8) join few_cpus;
        horizon = horizon;
        ticks_are = ticks_are;
        after = subst (λ (x : List ℕ). LimitLeft (record b { clusters = x; horizon = horizon }) rest s) join after;
      };
    }))

-- ---- init lines

-- an init line at one of three phases
record IsInitTaken (p : Phase) (b : Scenario) (o : Body) (words : List (List ℕ)) (statements : List (List (List ℕ))) (s : Scenario) : Type 0 where
  init : Init
  operands : List (List ℕ)
  word : words ≡ codes "init" ∷ operands
  taken : init_line (draft_at p b o) operands ≡ Ok (draft_at InInits (record b { inits = b.inits ++ init ∷ [] }) o)
  left : InitsLeft (record b { inits = b.inits ++ init ∷ [] }) statements s

init_taken : (p : Phase) (b : Scenario) (o : Body) (words : List (List ℕ)) (statements : List (List (List ℕ))) (s : Scenario) (more : List Init)
    → AreInits s (words ∷ statements) more → length s.inits ≤ 64 → s ≡ record b { inits = b.inits ++ more } → IsInitTaken p b o words statements s
unfolding init_line
init_taken p b o words statements s [] lines few whole = absurd lines
init_taken p b o words statements s (init ∷ more) lines few whole =
    let is : IsInit (record b { inits = b.inits ++ init ∷ more }) words init = subst (λ (x : Scenario). IsInit x words init) whole lines.0 in
    let i = init_is (record b { inits = b.inits ++ init ∷ more }) words init is in
    let read : init_operands b i.0 ≡ Ok init = sym (init_operands-kept b (b.inits ++ init ∷ more) i.0) ∙ i.2 in
    let all : s.inits ≡ b.inits ++ init ∷ more = ap (λ (x : Scenario). x.inits) whole in
    let room : nat_lt (length b.inits) 64 ≡ true = lt-ltb (length b.inits) 64 (omega (arith, length-append b.inits (init ∷ more), ap length all)) in
    record {
      init = init;
      operands = i.0;
      word = i.1;
      taken = rw (read, room) refl;
      left = record {
        more = more;
        lines = lines.1;
        few = few;
        whole = whole ∙ ap (λ (x : List Init). record b { inits = x }) (sym (append_assoc b.inits (init ∷ []) more));
      };
    }

init_is_taken : (b : Scenario) (o : Body) (words : List (List ℕ)) (statements : List (List (List ℕ))) (s : Scenario) → IsInitTaken InInits b o words statements s → IsTaken InInits b o words statements s
init_is_taken b o words statements s i =
    let next : Draft = draft_at InInits (record b { inits = b.inits ++ i.init ∷ [] }) o in
    record { next = next; taken = subst (λ (x : List (List ℕ)). after_statement InInits (draft_at InInits b o) x ≡ Ok next) (sym i.word) i.taken; left = i.left }

inits_taken : (b : Scenario) (o : Body) (words : List (List ℕ)) (statements : List (List (List ℕ))) (s : Scenario) → InitsLeft b (words ∷ statements) s → IsTaken InInits b o words statements s
inits_taken b o words statements s h = init_is_taken b o words statements s (init_taken InInits b o words statements s h.more h.lines h.few h.whole)

-- ---- bodies

-- what may follow the limit, at one of two phases
record IsLimitedTaken (p : Phase) (b : Scenario) (o : Body) (words : List (List ℕ)) (statements : List (List (List ℕ))) (s : Scenario) : Type 0 where
  next : Draft
  first : List ℕ
  operands : List (List ℕ)
  word : words ≡ first ∷ operands
  no_limit : bytes_eq first (codes "limit") ≡ false
  taken : at_limited (draft_at p b o) (first ∷ operands) ≡ Ok next
  left : Completes next.phase next.scenario next.body statements s

init_is_limited : (p : Phase) (b : Scenario) (o : Body) (words : List (List ℕ)) (statements : List (List (List ℕ))) (s : Scenario) → IsInitTaken p b o words statements s → IsLimitedTaken p b o words statements s
init_is_limited p b o words statements s i = record {
  next = draft_at InInits (record b { inits = b.inits ++ i.init ∷ [] }) o;
  first = codes "init";
  operands = i.operands;
  word = i.word;
  no_limit = refl;
  taken = i.taken;
  left = i.left;
}

init_limited_taken : (p : Phase) (b : Scenario) (o : Body) (words : List (List ℕ)) (statements : List (List (List ℕ))) (s : Scenario) → InitsLeft b (words ∷ statements) s → IsLimitedTaken p b o words statements s
init_limited_taken p b o words statements s h = init_is_limited p b o words statements s (init_taken p b o words statements s h.more h.lines h.few h.whole)

limited_taken : (p : Phase) (b : Scenario) (o : Body) (words : List (List ℕ)) (statements bodies inits : List (List (List ℕ))) (s : Scenario) (more : List Body)
    → words ∷ statements ≡ bodies ++ inits → AreBodies (length b.clusters) b.bodies bodies more → length s.bodies ≤ 32 → AreDistinct s.bodies → InitsLeft (record b { bodies = b.bodies ++ more }) inits s
    → IsLimitedTaken p b o words statements s
unfolding body_line
limited_taken p b o words statements bodies inits s [] statements_are are few distinct after =
    let is : inits ≡ words ∷ statements = sym (statements_are ∙ ap (λ (x : List (List (List ℕ))). x ++ inits) are) in
    let same : InitsLeft b inits s = subst (λ (x : List Body). InitsLeft (record b { bodies = x }) inits s) (append-nil b.bodies) after in
    let h : InitsLeft b (words ∷ statements) s = subst (λ (x : List (List (List ℕ))). InitsLeft b x s) is same in
    init_limited_taken p b o words statements s h
limited_taken p b o words statements bodies inits s (body ∷ more) statements_are are few distinct after =
    let first = are.0 in
    let rest = are.1 in
    let is = are.3 in
    let line : List (List ℕ) = codes "body" ∷ body.name ∷ [] in
    let end : List (List (List ℕ)) = (codes "end" ∷ []) ∷ [] in
    let bodies-are : bodies ≡ (line ∷ is.inner ++ end) ++ rest = are.2 ∙ ap (λ (x : List (List (List ℕ))). x ++ rest) is.statements_are in
    let whole : words ∷ statements ≡ line ∷ (is.inner ++ (end ++ (rest ++ inits))) =
    statements_are ∙ ap (λ (x : List (List (List ℕ))). x ++ inits) bodies-are ∙ append_assoc (line ∷ is.inner ++ end) rest inits ∙ append_assoc (line ∷ is.inner) end (rest ++ inits) in
    let word : words ≡ line = cc whole in
    let all : s.bodies ≡ b.bodies ++ body ∷ more = ap (λ (x : Scenario). x.bodies) after.whole in
    let room : nat_lt (length b.bodies) 32 ≡ true = lt-ltb (length b.bodies) 32 (omega (arith, length-append b.bodies (body ∷ more), ap length all)) in
    let unknown : body_of b.bodies body.name ≡ None = unknown_before b.bodies body more (subst (λ (x : List Body). AreDistinct x) all distinct) in
    record {
      next = draft_at InBody b (record { name = body.name; lines = [] });
      first = codes "body";
      operands = body.name ∷ [];
      word = word;
      no_limit = refl;
      taken = rw (is.name, unknown, room) refl;
      left = record {
        inner = is.inner;
        rest = rest ++ inits;
        statements_are = cc whole;
        more = body.lines;
        lines = is.ops;
        few = is.few;
        after = record {
          bodies = rest;
          inits = inits;
          statements_are = refl;
          more = more;
          bodies_are = are.4;
          few = few;
          distinct = distinct;
          after = subst (λ (x : List Body). InitsLeft (record b { bodies = x }) inits s) (sym (append_assoc b.bodies (body ∷ []) more)) after;
        };
      };
    }

is_taken_later : (b : Scenario) (o : Body) (words : List (List ℕ)) (statements : List (List (List ℕ))) (s : Scenario) → IsLimitedTaken Limited b o words statements s → IsTaken Limited b o words statements s
is_taken_later b o words statements s l = record {
  next = l.next;
  taken = subst (λ (x : List (List ℕ)). after_statement Limited (draft_at Limited b o) x ≡ Ok l.next) (sym l.word) l.taken;
  left = l.left;
}

is_taken_first : (b : Scenario) (o : Body) (words : List (List ℕ)) (statements : List (List (List ℕ))) (s : Scenario) → IsLimitedTaken Timed b o words statements s → IsTaken Timed b o words statements s
is_taken_first b o words statements s l = record {
  next = l.next;
  taken = subst (λ (x : List (List ℕ)). after_statement Timed (draft_at Timed b o) x ≡ Ok l.next) (sym l.word) (rw l.no_limit l.taken);
  left = l.left;
}

bodies_taken : (b : Scenario) (o : Body) (words : List (List ℕ)) (statements : List (List (List ℕ))) (s : Scenario) → BodiesLeft b (words ∷ statements) s → IsTaken Limited b o words statements s
bodies_taken b o words statements s h = is_taken_later b o words statements s (limited_taken Limited b o words statements h.bodies h.inits s h.more h.statements_are h.bodies_are h.few h.distinct h.after)

-- ---- the limit

timed_taken : (b : Scenario) (o : Body) (words : List (List ℕ)) (statements limits rest : List (List (List ℕ))) (s : Scenario) (limit : ℕ)
    → words ∷ statements ≡ limits ++ rest → SetsLimit b.limit limits limit → BodiesLeft (record b { limit = limit }) rest s → IsTaken Timed b o words statements s
unfolding limit_line
timed_taken b o words statements [] rest s limit statements_are sets after =
    let same : BodiesLeft b rest s = subst (λ (n : ℕ). BodiesLeft (record b { limit = n }) rest s) sets after in
    let h : BodiesLeft b (words ∷ statements) s = subst (λ (x : List (List (List ℕ))). BodiesLeft b x s) (sym statements_are) same in
    is_taken_first b o words statements s (limited_taken Timed b o words statements h.bodies h.inits s h.more h.statements_are h.bodies_are h.few h.distinct h.after)
timed_taken b o words statements (line ∷ []) rest s limit statements_are sets after =
    let word : words ≡ codes "limit" ∷ sets.0 ∷ [] = cc (statements_are, sets.1) in
    let is : statements ≡ rest = cc statements_are in
    let number = number_is 1 1000000 sets.0 limit sets.2 in
    record {
      next = draft_at Limited (record b { limit = limit }) o;
      taken = rw (word, number) refl;
      left = rw is after;
    }
timed_taken b o words statements (line ∷ more ∷ limits) rest s limit statements_are sets after = absurd sets

-- ---- lines of a body

body_taken : (b : Scenario) (o : Body) (words : List (List ℕ)) (statements : List (List (List ℕ))) (s : Scenario) (inner rest : List (List (List ℕ))) (more : List Op)
    → words ∷ statements ≡ inner ++ (codes "end" ∷ []) ∷ rest → AreOps (known_at b o) inner more → length (o.lines ++ more) ≤ 1000
    → BodiesLeft (record b { bodies = b.bodies ++ (record o { lines = o.lines ++ more }) ∷ [] }) rest s
    → IsTaken InBody b o words statements s
unfolding is_end inner_line
body_taken b o words statements s [] rest [] statements_are lines few after =
    let word : words ≡ codes "end" ∷ [] = cc statements_are in
    let is : statements ≡ rest = cc statements_are in
    record {
      next = draft_at Limited (record b { bodies = b.bodies ++ o ∷ [] }) no_body;
      taken = rw word refl;
      left = rw is (subst (λ (x : List Op). BodiesLeft (record b { bodies = b.bodies ++ (record o { lines = x }) ∷ [] }) rest s) (append-nil o.lines) after);
    }
body_taken b o words statements s [] rest (op ∷ more) statements_are lines few after = absurd lines
body_taken b o words statements s (line ∷ inner) rest [] statements_are lines few after = absurd lines
body_taken b o words statements s (line ∷ inner) rest (op ∷ more) statements_are lines few after =
    let word : words ≡ line = cc statements_are in
    let is : statements ≡ inner ++ (codes "end" ∷ []) ∷ rest = cc statements_are in
    let going : is_end line ≡ false = op_not_end (known_at b o) line op lines.0 in
    let read : op_line (known_at b o) line ≡ Ok op = op_is (known_at b o) line op lines.0 in
    let room : nat_lt (length o.lines) 1000 ≡ true = lt-ltb (length o.lines) 1000 (omega (arith, length-append o.lines (op ∷ more))) in
    let join : o.lines ++ op ∷ more ≡ (o.lines ++ op ∷ []) ++ more = sym (append_assoc o.lines (op ∷ []) more) in
    record {
      next = draft_at InBody b (record o { lines = o.lines ++ op ∷ [] });
      taken = rw (word, going, read, room) refl;
      left = record {
        inner = inner;
        rest = rest;
        statements_are = is;
        more = more;
        lines = lines.1;
        few = subst (λ (x : List Op). length x ≤ 1000) join few;
        after = subst (λ (x : List Op). BodiesLeft (record b { bodies = b.bodies ++ (record o { lines = x }) ∷ [] }) rest s) join after;
      };
    }

-- ---- all steps, and the end

-- each line of what completes a draft is taken
pub step_taken : (p : Phase) (b : Scenario) (o : Body) (words : List (List ℕ)) (statements : List (List (List ℕ))) (s : Scenario) → Completes p b o (words ∷ statements) s → IsTaken p b o words statements s
step_taken Start b o words statements s h = start_taken b o words statements s h
step_taken Headed b o words statements s h = headed_taken b o words statements s h
step_taken Clustered b o words statements s h = clustered_taken b o words statements h.clusters s h.ticks h.rest h.more h.horizon h.statements_are h.clusters_are h.few h.few_cpus h.ticks_are h.after
step_taken Timed b o words statements s h = timed_taken b o words statements h.limits h.rest s h.limit h.statements_are h.sets h.after
step_taken Limited b o words statements s h = bodies_taken b o words statements s h
step_taken InBody b o words statements s h = body_taken b o words statements s h.inner h.rest h.more h.statements_are h.lines h.few h.after
step_taken InInits b o words statements s h = inits_taken b o words statements s h

no_inits : (b s : Scenario) (more : List Init) → AreInits s [] more → s ≡ record b { inits = b.inits ++ more } → b ≡ s
no_inits b s [] lines whole = sym (whole ∙ ap (λ (x : List Init). record b { inits = x }) (append-nil b.inits))
no_inits b s (init ∷ more) lines whole = absurd lines

no_bodies : (b s : Scenario) (bodies inits : List (List (List ℕ))) (more : List Body) → [] ≡ bodies ++ inits → AreBodies (length b.clusters) b.bodies bodies more → InitsLeft (record b { bodies = b.bodies ++ more }) inits s → b ≡ s
no_bodies b s [] [] [] statements_are are after =
    no_inits b s after.more after.lines (after.whole ∙ ap (λ (x : List Body). record (record b { bodies = x }) { inits = b.inits ++ after.more }) (append-nil b.bodies))
no_bodies b s [] [] (body ∷ more) statements_are are after = absurd (cc (are.2 ∙ ap (λ (x : List (List (List ℕ))). x ++ are.1) are.3.statements_are))
no_bodies b s [] (line ∷ inits) more statements_are are after = absurd (cc statements_are)
no_bodies b s (line ∷ bodies) inits more statements_are are after = absurd (cc statements_are)

no_limit : (b s : Scenario) (limits rest : List (List (List ℕ))) (limit : ℕ) → [] ≡ limits ++ rest → SetsLimit b.limit limits limit → BodiesLeft (record b { limit = limit }) rest s → b ≡ s
no_limit b s [] rest limit statements_are sets after =
    let h : BodiesLeft b rest s = subst (λ (n : ℕ). BodiesLeft (record b { limit = n }) rest s) sets after in
    no_bodies b s h.bodies h.inits h.more (statements_are ∙ h.statements_are) h.bodies_are h.after
no_limit b s (line ∷ limits) rest limit statements_are sets after = absurd (cc statements_are)

no_ticks : (clusters : List (List (List ℕ))) (ticks : List (List ℕ)) (rest : List (List (List ℕ))) → [] ≡ clusters ++ ticks ∷ rest → ⊥
no_ticks [] ticks rest e = cc
no_ticks (line ∷ clusters) ticks rest e = cc

no_end : (inner rest : List (List (List ℕ))) → [] ≡ inner ++ (codes "end" ∷ []) ∷ rest → ⊥
no_end [] rest e = cc
no_end (line ∷ inner) rest e = cc

-- what no line more completes is the scenario
pub end_taken : (p : Phase) (b : Scenario) (o : Body) (s : Scenario) → Completes p b o [] s → ends p b ≡ Some s
end_taken Start b o s h = absurd (cc (h.statements_are))
end_taken Headed b o s h = absurd (cc (h.statements_are))
end_taken Clustered b o s h = absurd (no_ticks h.clusters h.ticks h.rest h.statements_are)
end_taken Timed b o s h = ap (λ (x : Scenario). Some x) (no_limit b s h.limits h.rest h.limit h.statements_are h.sets h.after)
end_taken Limited b o s h = ap (λ (x : Scenario). Some x) (no_bodies b s h.bodies h.inits h.more h.statements_are h.bodies_are h.after)
end_taken InBody b o s h = absurd (no_end h.inner h.rest h.statements_are)
end_taken InInits b o s h = ap (λ (x : Scenario). Some x) (no_inits b s h.more h.lines h.whole)
