use Rattle.std.proofs.Common.{◌++◌, ◌∷◌, [], List, ℕ, drop, arith, refl, ◌+◌, ap, sym, subst, ◌∙◌}
use Rattle.std.specs.Option.{option_to_list}
use Rattle.std.proofs.lemmas.List.{drop_all}
use Rattle.rk_cluster.specs.Registers.{change_at}
use Rattle.rk_parts.specs.Threads.{standings_by}
use Rattle.rk_parts.specs.ClusterRegisters.{register}
use Rattle.rk_parts.proofs.RegisterFillLemmas.{IsFilling, fill_none, fill_some, fill_other, fill_behind, filled, left_from}
use Rattle.rk_parts.proofs.settle.fill_register.Goals as goal
use Rattle.rk_parts.proofs.settle.fill_register.Goals.{in-Some, in_default}

pub loop-thread-init : goal.loop-thread-init
loop-thread-init c = fill_none c.marked-marked.result.now (option_to_list c.args.last.now) c.args.threads.now.stood (standings_by c.args.threads.now.shares c.args.threads.now.places) c.args.cluster (change_at c.clear.new.self) c.marked-marked.ensures.others.stood (λ t. ap (λ f. f t) c.clear.ensures)

pub loop-thread-preserved : goal.loop-thread-preserved
loop-thread-preserved c =
    let whole = register c.args.threads.now.stood (standings_by c.args.threads.now.shares c.args.threads.now.places) (option_to_list c.args.last.now) c.args.cluster in
    let marked = c.marked-marked.result.now in
    let i = c.loop-thread.thread-index in
    let u = c.thread-item.result in
    let rest = drop (i + 1) marked ++ option_to_list c.args.last.now in
    let split = left_from marked (option_to_list c.args.last.now) i u (omega arith) c.thread-item.is in
    let is = subst (λ (us : List ℕ). IsFilling whole us (change_at c.loop-thread.out)) split c.loop-thread.invariant in
    elim c.match-change_of.branch [
      | in-Some w ↦ fill_some whole u rest (change_at c.loop-thread.out) (change_at c.match-change_of.out) w.in-Some.change is (sym w.in-Some.is ∙ c.change_of.ensures) (ap change_at w.out-is ∙ w.set.ensures)
      | in_default w ↦ rw w.out-is (fill_other whole u rest (change_at c.loop-thread.out) is (sym w.in_default.is ∙ c.change_of.ensures))
    ]

pub returns-in-Some-change_of : goal.returns-in-Some-change_of
returns-in-Some-change_of c =
    let whole = register c.args.threads.now.stood (standings_by c.args.threads.now.shares c.args.threads.now.places) (option_to_list c.args.last.now) c.args.cluster in
    let u = c.in-Some-last.thread in
    let is = fill_behind whole _ (option_to_list c.args.last.now) (u ∷ []) (change_at c.loop-thread.out) (drop_all c.loop-thread.thread-index c.marked-marked.result.now (omega arith)) (ap option_to_list c.in-Some-last.is) c.loop-thread.invariant in
    filled whole [] _ refl (fill_some whole u [] (change_at c.loop-thread.out) _ c.in-Some-change_of.change is (sym c.in-Some-change_of.is ∙ c.change_of-in-Some-last.ensures) c.set-in-Some-change_of.ensures)

pub returns-in_default-change_of : goal.returns-in_default-change_of
returns-in_default-change_of c =
    let whole = register c.args.threads.now.stood (standings_by c.args.threads.now.shares c.args.threads.now.places) (option_to_list c.args.last.now) c.args.cluster in
    let u = c.in-Some-last.thread in
    let is = fill_behind whole _ (option_to_list c.args.last.now) (u ∷ []) (change_at c.loop-thread.out) (drop_all c.loop-thread.thread-index c.marked-marked.result.now (omega arith)) (ap option_to_list c.in-Some-last.is) c.loop-thread.invariant in
    filled whole [] _ refl (fill_other whole u [] (change_at c.loop-thread.out) is (sym c.in_default-change_of.is ∙ c.change_of-in-Some-last.ensures))

pub returns-in_default-last : goal.returns-in_default-last
returns-in_default-last c =
    let whole = register c.args.threads.now.stood (standings_by c.args.threads.now.shares c.args.threads.now.places) (option_to_list c.args.last.now) c.args.cluster in
    filled whole [] _ refl (fill_behind whole _ (option_to_list c.args.last.now) [] (change_at c.loop-thread.out) (drop_all c.loop-thread.thread-index c.marked-marked.result.now (omega arith)) (ap option_to_list c.in_default-last.is) c.loop-thread.invariant)
