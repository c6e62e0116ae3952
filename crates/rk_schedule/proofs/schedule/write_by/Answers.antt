use Rattle.std.proofs.Common.{◌≡◌, ◌∙◌, ap}
use Rattle.rk_model.specs.State.{Plain}
use Rattle.rk_model.specs.Histories.{after, after_from}
use Rattle.rk_schedule.proofs.PeriodLineLemmas.{whole_text}
use Rattle.rk_schedule.proofs.schedule.write_by.Goals as goal

pub returns : goal.returns
returns c =
    let s = c.args.scenario.now in
    let xs = c.args.entries.now in
    let k = c.push_entries.new.parts in
    let reached : k ≡ after s xs = c.in_ok-push_entries.ensures.state ∙ ap (λ (p : Plain). after_from p xs) c.requires.opened in
    rw (c.in_ok-push_text-2.ensures, c.in_ok-push_final.ensures, c.in_ok-push_periods.ensures, c.in_ok-push_entries.ensures.text, c.in_ok-push_text.ensures, c.in_ok-push_header.ensures, c.new-text.ensures.items, c.requires.opened, c.ends_with_end.ensures)
    (whole_text s xs k c.statistics_are_those_of_the_history.ensures c.requires.valid c.requires.legal reached)
