use Rattle.std.proofs.Common.{List, ap, ◌∙◌}
use Rattle.rk_model.specs.declared.scenario.Init.{Init}
use Rattle.rk_model.specs.Names.{Table, no_objects}
use Rattle.rk_model.specs.Histories.{begun_names}
use Rattle.rk_kernel.proofs.OpenedPartLemmas.{StandVacant, HaveBegun, lent_vacant, opened, opening_contributes}
use Rattle.rk_kernel.proofs.opening.make_opening.Goals as goal

pub start_all-requires-clause-lent : goal.start_all-requires-clause-lent
start_all-requires-clause-lent c = λ number known. lent_vacant c.args.scenario.now c.in_ok-all.all number c.requires (record { vacant = c.in_ok-all.ensures.vacant; whole = c.in_ok-all.ensures.whole; noted = c.in_ok-all.ensures.noted }) known

pub contribute-requires-clause-lent : goal.contribute-requires-clause-lent
contribute-requires-clause-lent c =
    (opening_contributes c.args.scenario.now c.in_ok-all.all c.start_all.new.clusters c.requires (record { vacant = c.in_ok-all.ensures.vacant; whole = c.in_ok-all.ensures.whole; noted = c.in_ok-all.ensures.noted }) c.start_all.ensures.laid c.start_all.ensures.kept c.start_all.ensures.accounts).lent

pub contribute-requires-clause-lives : goal.contribute-requires-clause-lives
contribute-requires-clause-lives c =
    (opening_contributes c.args.scenario.now c.in_ok-all.all c.start_all.new.clusters c.requires (record { vacant = c.in_ok-all.ensures.vacant; whole = c.in_ok-all.ensures.whole; noted = c.in_ok-all.ensures.noted }) c.start_all.ensures.laid c.start_all.ensures.kept c.start_all.ensures.accounts).lives

pub contribute-requires-clause-homes : goal.contribute-requires-clause-homes
contribute-requires-clause-homes c =
    (opening_contributes c.args.scenario.now c.in_ok-all.all c.start_all.new.clusters c.requires (record { vacant = c.in_ok-all.ensures.vacant; whole = c.in_ok-all.ensures.whole; noted = c.in_ok-all.ensures.noted }) c.start_all.ensures.laid c.start_all.ensures.kept c.start_all.ensures.accounts).homes

pub returns : goal.returns
returns c =
    let s = c.args.scenario.now in
    let all = c.in_ok-all.all in
    let stand : StandVacant s all = record { vacant = c.in_ok-all.ensures.vacant; whole = c.in_ok-all.ensures.whole; noted = c.in_ok-all.ensures.noted } in
    let begin : HaveBegun s all c.start_all.new.clusters c.name_all.new.table = record {
      started = c.start_all.ensures.started;
      laid = c.start_all.ensures.laid;
      kept = c.start_all.ensures.kept;
      accounts = c.start_all.ensures.accounts;
      held = c.start_all.ensures.held;
      named = c.name_all.ensures ∙ ap (λ (inits : List Init). (let table : Table = record no_objects { tasks = begun_names inits } in table)) c.as_slice.ensures;
    } in
    let is = opened s all c.start_all.new.clusters c.contribute.new.clusters c.host_anew.new.clusters c.name_all.new.table c.requires stand begin c.contribute.ensures.flat c.contribute.ensures.lent (c.host_anew.ensures.kept ∙ c.settle_parts.ensures) c.host_anew.ensures.hosted in
    record { opening = is.opening; ready = is.ready }
