use Rattle.std.proofs.Common.{◌≡◌, ◌+◌, map, ap, sym, ◌∙◌, subst, refl}
use Rattle.rk_parts.specs.declared.parts.AllParts.{AllParts}
use Rattle.rk_parts.specs.Noted.{AreNoted}
use Rattle.rk_parts.specs.Hosted.{AreHosted}
use Rattle.rk_parts.proofs.HostedLemmas.{hosted_tick}
use Rattle.rk_parts.specs.Joined.{present_of}
use Rattle.rk_parts.specs.Whole.{at_tick, group_at_tick}
use Rattle.rk_parts.proofs.TickPartLemmas.{state_tick, whole_tick, noted_tick}
use Rattle.rk_parts.proofs.ticks.pass_tick.Goals as goal

pub returns : goal.returns
returns c =
    let old = c.args.all.now in
    let n = present_of old.clusters + 1 in
    let tick : c.present-tick.result + 1 ≡ n = ap (λ m. m + 1) c.present-tick.ensures in
    let new : AllParts = record old { clusters = c.set_clusters.new.clusters; groups = c.set_groups.new.groups; table = record old.table { present = c.present-tick.result + 1 } } in
    let clusters = c.set_clusters.ensures ∙ ap (λ m. map (at_tick m) old.clusters) tick in
    let groups = c.set_groups.ensures ∙ ap (λ m. map (group_at_tick m) old.groups) tick in
    record {
      passed = state_tick n old new c.requires.whole clusters groups refl refl;
      whole = whole_tick n old new c.requires.whole clusters groups tick refl;
      hosted = λ hosted. subst AreHosted (sym clusters) (hosted_tick n old.clusters hosted);
      noted = λ count noted. subst (AreNoted count) (sym clusters) (noted_tick n count old.clusters noted);
      scenario = refl;
    }
