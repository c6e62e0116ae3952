-- What the lines that are left must still say at each phase of the machine, so that what was read so far and they tell a scenario.
use Rattle.std.proofs.Common.{◌≡◌, ℕ, ◌≤◌, List, [], ◌∷◌, ◌++◌, length, Option, Some, None, codes, refl}
use Rattle.rk_model.specs.declared.scenario.Op.{Op}
use Rattle.rk_model.specs.declared.scenario.Body.{Body}
use Rattle.rk_model.specs.declared.scenario.Init.{Init}
use Rattle.rk_model.specs.declared.scenario.Scenario.{Scenario}
use Rattle.rk_model.specs.Text.Scenarios.{AreOps, AreBodies, AreDistinct, AreInits, IsNumber, IsCluster, AreClusters, cpus_in, IsTicks, IsInit}
use Rattle.rk_model.specs.Text.Reading.{Phase, Start, Headed, Clustered, Timed, Limited, InBody, InInits, Draft, known_at, init_operands}

-- init lines, after those of b
pub record InitsLeft (b : Scenario) (statements : List (List (List ℕ))) (s : Scenario) : Type 0 where
  pub more : List Init
  pub lines : AreInits s statements more
  pub few : length s.inits ≤ 64
  pub whole : s ≡ record b { inits = b.inits ++ more }

-- bodies, after those of b, and init lines
pub record BodiesLeft (b : Scenario) (statements : List (List (List ℕ))) (s : Scenario) : Type 0 where
  pub bodies : List (List (List ℕ))
  pub inits : List (List (List ℕ))
  pub statements_are : statements ≡ bodies ++ inits
  pub more : List Body
  pub bodies_are : AreBodies (length b.clusters) b.bodies bodies more
  pub few : length s.bodies ≤ 32
  pub distinct : AreDistinct s.bodies
  pub after : InitsLeft (record b { bodies = b.bodies ++ more }) inits s

-- the rest of the open body o, and what may follow it
pub record BodyLeft (b : Scenario) (o : Body) (statements : List (List (List ℕ))) (s : Scenario) : Type 0 where
  pub inner : List (List (List ℕ))
  pub rest : List (List (List ℕ))
  pub statements_are : statements ≡ inner ++ (codes "end" ∷ []) ∷ rest
  pub more : List Op
  pub lines : AreOps (known_at b o) inner more
  pub few : length (o.lines ++ more) ≤ 1000
  pub after : BodiesLeft (record b { bodies = b.bodies ++ (record o { lines = o.lines ++ more }) ∷ [] }) rest s

-- The lines are one line `limit N`, or none, and then the limit is as it was before.
abbrev pub SetsLimit : ℕ → List (List (List ℕ)) → ℕ → Type 0
SetsLimit before [] limit = limit ≡ before
SetsLimit before (words ∷ []) limit = (number : List ℕ) × (words ≡ codes "limit" ∷ number ∷ []) × IsNumber number limit 1 1000000
SetsLimit before (words ∷ more ∷ statements) limit = ⊥

-- the limit, if there is one, and what may follow it
pub record LimitLeft (b : Scenario) (statements : List (List (List ℕ))) (s : Scenario) : Type 0 where
  pub limits : List (List (List ℕ))
  pub rest : List (List (List ℕ))
  pub statements_are : statements ≡ limits ++ rest
  pub limit : ℕ
  pub sets : SetsLimit b.limit limits limit
  pub after : BodiesLeft (record b { limit = limit }) rest s

-- clusters, after those of b, the ticks, and what may follow them
pub record ClustersLeft (b : Scenario) (statements : List (List (List ℕ))) (s : Scenario) : Type 0 where
  pub clusters : List (List (List ℕ))
  pub ticks : List (List ℕ)
  pub rest : List (List (List ℕ))
  pub statements_are : statements ≡ clusters ++ ticks ∷ rest
  pub more : List ℕ
  pub clusters_are : AreClusters clusters more
  pub few : length (b.clusters ++ more) ≤ 4
  pub few_cpus : cpus_in (b.clusters ++ more) ≤ 8
  pub horizon : ℕ
  pub ticks_are : IsTicks ticks horizon
  pub after : LimitLeft (record b { clusters = b.clusters ++ more; horizon = horizon }) rest s

-- a cluster, after those of b, and what may follow it
pub record ClusterLeft (b : Scenario) (statements : List (List (List ℕ))) (s : Scenario) : Type 0 where
  pub cluster : List (List ℕ)
  pub rest : List (List (List ℕ))
  pub statements_are : statements ≡ cluster ∷ rest
  pub cpus : ℕ
  pub is : IsCluster cluster cpus
  pub after : ClustersLeft (record b { clusters = b.clusters ++ cpus ∷ [] }) rest s

-- the header, and what may follow it
pub record HeaderLeft (b : Scenario) (statements : List (List (List ℕ))) (s : Scenario) : Type 0 where
  pub rest : List (List (List ℕ))
  pub statements_are : statements ≡ (codes "rtems" ∷ codes "1" ∷ []) ∷ rest
  pub after : ClusterLeft b rest s

-- these lines complete what was read so far to the scenario s
abbrev pub Completes : Phase → Scenario → Body → List (List (List ℕ)) → Scenario → Type 0
Completes Start b o statements s = HeaderLeft b statements s
Completes Headed b o statements s = ClusterLeft b statements s
Completes Clustered b o statements s = ClustersLeft b statements s
Completes Timed b o statements s = LimitLeft b statements s
Completes Limited b o statements s = BodiesLeft b statements s
Completes InBody b o statements s = BodyLeft b o statements s
Completes InInits b o statements s = InitsLeft b statements s

-- a draft by its parts
abbrev pub draft_at : Phase → Scenario → Body → Draft
draft_at p b o = record { phase = p; scenario = b; body = o }

-- what lines give that end at this phase
abbrev pub ends : Phase → Scenario → Option Scenario
ends Start s = None
ends Headed s = None
ends Clustered s = None
ends Timed s = Some s
ends Limited s = Some s
ends InBody s = None
ends InInits s = Some s

-- ---- an init line speaks of clusters and bodies alone

pub IsInit-kept : (b : Scenario) (inits : List Init) (words : List (List ℕ)) (init : Init) → IsInit b words init → IsInit (record b { inits = inits }) words init
IsInit-kept b inits words init h = record {
  name = h.name;
  cluster = h.cluster;
  priority = h.priority;
  body = h.body;
  words_are = h.words_are;
  name_is = h.name_is;
  cluster_is = h.cluster_is;
  priority_is = h.priority_is;
  body_is = h.body_is;
}

pub init_operands-kept : (b : Scenario) (inits : List Init) (operands : List (List ℕ)) → init_operands (record b { inits = inits }) operands ≡ init_operands b operands
unfolding init_operands
init_operands-kept b inits [] = refl
init_operands-kept b inits (name ∷ []) = refl
init_operands-kept b inits (name ∷ cluster ∷ []) = refl
init_operands-kept b inits (name ∷ cluster ∷ priority ∷ []) = refl
init_operands-kept b inits (name ∷ cluster ∷ priority ∷ body ∷ []) = refl
init_operands-kept b inits (name ∷ cluster ∷ priority ∷ body ∷ more ∷ words) = refl
