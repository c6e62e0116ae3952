use Rattle.std.proofs.Common.{◌≡◌, ◌≤◌, [], length, map, take, drop, arith, sym, ◌∙◌, subst}
use Rattle.std.proofs.Math.ListN.{drop_of_length-le}
use Rattle.std.proofs.lemmas.List.{take_all, append-nil}
use Rattle.std.specs.List.{AllByRecursion}
use Rattle.rk_parts.specs.Holdings.{with_owner, IsNotedIn}
use Rattle.rk_parts.specs.Lent.{NotesOwner}
use Rattle.rk_parts.proofs.HoldingLemmas.{notes}
use Rattle.rk_parts.proofs.holdings.note_owner.Goals as goal

pub returns : goal.returns
returns c =
    let old = c.args.clusters.now in
    let new = c.loop-at.clusters in
    let at = c.loop-at.at in
    let more : length new ≤ at = omega arith in
    let all : take at new ≡ new = take_all at new more in
    let none : drop at new ≡ [] = drop_of_length-le new more in
    let is : new ≡ map (with_owner c.args.index c.args.holding) old = sym (append-nil new) ∙ rw (all, none) at c.loop-at.invariant.so_far in
    let noted = subst (AllByRecursion (IsNotedIn c.args.index c.args.holding)) (all ∙ is) c.loop-at.invariant.noted in
    subst (NotesOwner old c.args.index c.args.holding) (sym is) (notes c.args.index c.args.holding old noted c.requires.lives)
