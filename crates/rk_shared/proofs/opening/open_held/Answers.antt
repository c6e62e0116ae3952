use Rattle.std.proofs.Common.{◌≡◌, ◌∙◌, ap, sym, refl, arith, subst, Some}
use Rattle.rk_model.specs.State.{Plain}
use Rattle.rk_model.specs.declared.scenario.Scenario.{Scenario}
use Rattle.rk_model.specs.Scheduling.Seats.{cpu_count}
use Rattle.rk_model.specs.Histories.{opening}
use Rattle.rk_model.specs.Text.Scenarios.{IsScenario}
use Rattle.rk_kernel.proofs.ReachedLemmas.{cpus_opening}
use Rattle.rk_journal.specs.JournalViews.{MarkView}
use Rattle.rk_shared.specs.SeatViews.{seat_view, first_seats}
use Rattle.rk_shared.specs.Openings.{first_mark}
use Rattle.rk_shared.proofs.OpeningSeatLemmas.{keeps_opening, same_mark}
use Rattle.rk_shared.proofs.opening.open_held.Goals as goal

pub invariant_of-result : goal.invariant_of-result
invariant_of-result c =
    let o = c.in_ok-journal.field-0.journal.opening in
    let parts = c.in_ok-parts.parts in
    let same : parts.scenario ≡ c.args.scenario.now = ap (λ (k : Plain). k.scenario) c.in_ok-parts.ensures in
    let first : parts ≡ opening parts.scenario = c.in_ok-parts.ensures ∙ ap opening (sym same) in
    let j = c.in_ok-journal.ensures in
    let mark : c.in-Some.mark ≡ first_mark o 17 = same_mark _ c.in-Some.mark (first_mark o 17) c.in-Some.ensures.mark (j.marks.each 17 (omega arith)) in
    record {
      keeps = keeps_opening parts.scenario o parts c.in_ok-journal.field-0.journal c.take_seats.new.marks (subst IsScenario (sym same) c.requires)
          first refl (j.journal.0 ∙ ap (λ (x : Scenario). x.limit) (sym same)) j.journal.1 c.in_ok-cpus.ensures.marks;
      empty = j.journal.1;
      cpus_are = c.in_ok-cpus.ensures.cpus ∙ ap (first_seats o) (c.cpus.ensures.count ∙ ap cpu_count first ∙ cpus_opening parts.scenario);
      clock_is = ap (λ (m : MarkView). seat_view 8 (Some m)) mark;
    }
