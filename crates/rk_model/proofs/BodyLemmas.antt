-- What stands at the lines of bodies, and where their gotos lead.
use Rattle.std.proofs.Common.{◌≡◌, ℕ, zero, suc, ◌≤◌, List, [], ◌∷◌, Option, None, Some, IfSome, length, arith, subst}
use Rattle.std.specs.List.{slice_get, AllByRecursion}
use Rattle.rk_model.specs.declared.scenario.Body.{Body}
use Rattle.rk_model.specs.declared.scenario.Op.{Op}
use Rattle.rk_model.specs.declared.scenario.Op.TheVariants.{Goto}
use Rattle.rk_model.specs.Limits.{GoesOn, GoesOnBy, IsNear, AreRunnable}
use Rattle.rk_model.specs.Directives.Lines.{kind_at}
use Rattle.rk_model.specs.State.{op_in}
use Rattle.rk_model.proofs.LimitLemmas.{target_within}

-- the lines of a body; none where there is no body
abbrev pub lines_in : Option Body → List Op
lines_in None = []
lines_in (Some body) = body.lines

goes_at : (lines ops : List Op) (i : ℕ) → AllByRecursion (GoesOn lines) ops → GoesOnBy lines (kind_at (slice_get ops i))
goes_at lines [] i all = tt
goes_at lines (op ∷ ops) zero all = all.0
goes_at lines (op ∷ ops) (suc i) all = goes_at lines ops i all.1

goes_from : (bodies : List Body) (b line : ℕ) → AllByRecursion (λ (body : Body). AllByRecursion (GoesOn body.lines) body.lines) bodies → GoesOnBy (lines_in (slice_get bodies b)) (kind_at (op_in (slice_get bodies b) line))
goes_from [] b line all = tt
goes_from (body ∷ bodies) zero zero all = tt
goes_from (body ∷ bodies) zero (suc i) all = goes_at body.lines body.lines i all.0
goes_from (body ∷ bodies) (suc b) line all = goes_from bodies b line all.1

-- a thread goes on from what stands at a line of a body
pub goes_in : (bodies : List Body) (b line : ℕ) → AreRunnable bodies → GoesOnBy (lines_in (slice_get bodies b)) (kind_at (op_in (slice_get bodies b) line))
goes_in bodies b line runs = goes_from bodies b line runs.ops

near_at : (ops : List Op) (i : ℕ) → AllByRecursion IsNear ops → IfSome (slice_get ops i) IsNear
near_at [] i all = tt
near_at (op ∷ ops) zero all = all.0
near_at (op ∷ ops) (suc i) all = near_at ops i all.1

near_from : (bodies : List Body) (b line : ℕ) → AllByRecursion (λ (body : Body). AllByRecursion IsNear body.lines) bodies → IfSome (op_in (slice_get bodies b) line) IsNear
near_from [] b line all = tt
near_from (body ∷ bodies) zero zero all = tt
near_from (body ∷ bodies) zero (suc i) all = near_at body.lines i all.0
near_from (body ∷ bodies) (suc b) line all = near_from bodies b line all.1

-- the cluster that a line of a body names is one that there may be
pub near_in : (bodies : List Body) (b line : ℕ) → AreRunnable bodies → IfSome (op_in (slice_get bodies b) line) IsNear
near_in bodies b line runs = near_from bodies b line runs.near

few_from : (bodies : List Body) (b : ℕ) → AllByRecursion (λ (body : Body). length body.lines ≤ 1000) bodies → length (lines_in (slice_get bodies b)) ≤ 1000
few_from [] b short = omega arith
few_from (body ∷ bodies) zero short = short.0
few_from (body ∷ bodies) (suc b) short = few_from bodies b short.1

-- a body has at most 1,000 lines
pub few_lines : (bodies : List Body) (b : ℕ) → AreRunnable bodies → length (lines_in (slice_get bodies b)) ≤ 1000
few_lines bodies b runs = few_from bodies b runs.short

-- the target of a goto is at most the 1,000th line
pub goto_within : (bodies : List Body) (b line target : ℕ) → AreRunnable bodies → op_in (slice_get bodies b) line ≡ Some (Goto target) → target ≤ 1000
goto_within bodies b line target runs is =
    let lines = lines_in (slice_get bodies b) in
    let leads = subst (λ (o : Option Op). GoesOnBy lines (kind_at o)) is (goes_in bodies b line runs) in
    let within = target_within lines target leads in
    omega (arith, within.1, few_lines bodies b runs)
