use Rattle.std.proofs.Common.{refl, ap, ◌∙◌}
use Rattle.rk_model.specs.Scheduling.Timers.{head_of}
use Rattle.rk_parts.specs.Joined.{plain_of}
use Rattle.rk_kernel.proofs.PartsSettledLemmas.{framed_contributes, part_found}
use Rattle.rk_kernel.proofs.FiringLemmas.{unchanged, fires_none, fires_some, due_lent, due_rings, ready_same, fired}
use Rattle.rk_kernel.proofs.clock.fire_first.Goals as goal

pub take_due_of-requires : goal.take_due_of-requires
take_due_of-requires c = rw (part_found c.args.all.now c.args.cluster c.requires.ready c.requires.cluster) refl

pub rung-requires : goal.rung-requires
rung-requires c =
    let all = c.args.all.now in
    let first = c.in-Some.ensures.first ∙ ap head_of (due_lent all c.args.cluster c.requires.ready c.requires.cluster) in
    due_rings all c.take_due_of.new.clusters c.args.cluster c.in-Some.timer c.requires.ready c.requires.cluster first c.in-Some.ensures.taken

pub contribute-requires-clause-lent : goal.contribute-requires-clause-lent
contribute-requires-clause-lent c =
    let all = c.args.all.now in
    (framed_contributes all all.clusters c.rung.new.clusters c.requires.ready c.requires.ready.whole.laid refl refl ((c.rung.ensures all.scenario).kept ∙ c.in-Some.ensures.taken.kept)).lent

pub contribute-requires-clause-lives : goal.contribute-requires-clause-lives
contribute-requires-clause-lives c =
    let all = c.args.all.now in
    (framed_contributes all all.clusters c.rung.new.clusters c.requires.ready c.requires.ready.whole.laid refl refl ((c.rung.ensures all.scenario).kept ∙ c.in-Some.ensures.taken.kept)).lives

pub contribute-requires-clause-homes : goal.contribute-requires-clause-homes
contribute-requires-clause-homes c =
    let all = c.args.all.now in
    (framed_contributes all all.clusters c.rung.new.clusters c.requires.ready c.requires.ready.whole.laid refl refl ((c.rung.ensures all.scenario).kept ∙ c.in-Some.ensures.taken.kept)).homes

pub returns-in-None : goal.returns-in-None
returns-in-None c =
    let all = c.args.all.now in
    let k = plain_of all in
    let first = c.in-None.ensures.first ∙ ap head_of (due_lent all c.args.cluster c.requires.ready c.requires.cluster) in
    let taken = c.in-None.ensures.taken.state all.scenario all.table.names all.groups c.requires.cluster in
    record {
      fires = fires_none k _ c.args.cluster _ first taken refl;
      ready = ready_same all c.take_due_of.new.clusters c.requires.ready (unchanged k _ c.args.cluster first taken) c.in-None.ensures.taken.kept c.in-None.ensures.taken.held;
      scenario = refl;
    }

pub returns-in-Some : goal.returns-in-Some
returns-in-Some c =
    let all = c.args.all.now in
    let k = plain_of all in
    let x = c.in-Some.timer in
    let first = c.in-Some.ensures.first ∙ ap head_of (due_lent all c.args.cluster c.requires.ready c.requires.cluster) in
    let done = fired all c.take_due_of.new.clusters c.rung.new.clusters c.contribute.new.clusters c.host_parts.new.clusters c.rung.new.groups c.args.cluster x c.requires.ready c.requires.cluster first c.in-Some.ensures.taken (c.rung.ensures all.scenario) c.contribute.ensures.flat c.contribute.ensures.lent (c.host_parts.ensures.kept ∙ c.settle_parts.ensures) c.host_parts.ensures.hosted in
    record {
      fires = fires_some k _ c.args.cluster _ x first done.state refl;
      ready = done.ready;
      scenario = refl;
    }
