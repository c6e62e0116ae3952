use Rattle.std.proofs.Common.{◌≡◌, Some, None, sym, ap, ◌∙◌}
use Rattle.rk_groups.specs.declared.group.GroupPart.{GroupPart}
use Rattle.rk_groups.specs.Groups.{group_in}
use Rattle.rk_groups.proofs.GroupLemmas.{group_is, wakes_found, wakes_nowhere}
use Rattle.rk_groups.proofs.barriers.wakes_of.Goals as goal

pub returns-in-Some : goal.returns-in-Some
returns-in-Some c =
    let groups = c.args.groups.now in
    let i = c.args.index in
    let found : group_in groups i ≡ Some c.in-Some.at = sym c.in-Some.ensures.place in
    c.list.ensures ∙ ap (λ (g : GroupPart). g.wakes) (sym (group_is groups c.in-Some.at i c.index-groups-at.result found)) ∙ sym (wakes_found groups c.in-Some.at i found)

pub returns-in-None : goal.returns-in-None
returns-in-None c =
    let groups = c.args.groups.now in
    let i = c.args.index in
    let none : group_in groups i ≡ None = sym c.in-None.ensures.place in
    sym (wakes_nowhere groups i none)
