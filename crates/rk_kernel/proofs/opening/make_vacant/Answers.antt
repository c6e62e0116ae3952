use Rattle.std.proofs.Common.{ℕ, List, refl, ap, ◌∙◌}
use Rattle.rk_kernel.specs.Made.{vacant_parts}
use Rattle.rk_kernel.proofs.VacantPartLemmas.{AreMade, plain_made, whole_made, noted_made}
use Rattle.rk_kernel.proofs.opening.make_vacant.Goals as goal

pub returns : goal.returns
returns c =
    let s = c.args.scenario.now in
    let made : AreMade s _ = record {
      scenario = c.in_ok-copy_scenario.ensures;
      clusters = c.in_ok-clusters.ensures ∙ ap (λ (counts : List ℕ). vacant_parts counts) c.as_slice.ensures;
      groups = rw (c.in_ok-make_group.ensures, c.in_ok-make_group-2.ensures, c.in_ok-make_group-3.ensures, c.in_ok-make_group-4.ensures) refl;
      time = refl;
      names = c.in_ok-new.ensures;
    } in
    record {
      vacant = plain_made s _ made c.requires.few_clusters;
      whole = whole_made s _ made;
      noted = noted_made s _ made;
    }
