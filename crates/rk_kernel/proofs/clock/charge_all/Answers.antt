use Rattle.std.proofs.Common.{rules, ◌<◌, ◌≤◌, arith, ap, sym, ◌∙◌, refl, subst}
use Rattle.rk_model.specs.declared.state.Thread.{Thread}
use Rattle.rk_model.specs.Directives.Objects.{has_begun}
use Rattle.rk_model.specs.Scheduling.Ticks.{charged}
use Rattle.rk_parts.specs.Joined.{plain_of}
use Rattle.rk_parts.proofs.LentSeatLemmas.{cpu_count_joined}
use Rattle.rk_directives.proofs.ThreadBoundsLemmas.{bounds_at}
use Rattle.rk_kernel.proofs.TickLemmas.{charged_steady}
use Rattle.rk_kernel.proofs.ChargeLemmas.{show_charged, uncharged, charged_lives, one_charged, none_more_charged, all_charged}
use Rattle.rk_directives.proofs.DirectiveLemmas.LentLemmas.{puts_state}
use Rattle.rk_kernel.proofs.clock.charge_all.Goals as goal
use Rattle.rk_kernel.proofs.clock.charge_all.Goals.{in-Runs, in_default}

pub count_cpus-cpu-end-requires : goal.count_cpus-cpu-end-requires
count_cpus-cpu-end-requires c =
    let all = c.args.all.now in
    omega (arith, c.requires.ready.sound.few_cpus, cpu_count_joined all.scenario all.table.names all.groups all.clusters c.requires.ready.whole.laid)

pub charged-next-requires-clause-line : goal.charged-next-requires-clause-line
charged-next-requires-clause-line c =
    let old = c.args.all.now in
    let all = c.loop-cpu.all in
    let k = plain_of old in
    let u = c.in-Runs.thread in
    let does = c.view_on.ensures all.scenario all.table.names all.groups (show_charged k c.loop-cpu.cpu all old refl c.requires.ready.whole c.requires.ready.hosted c.loop-cpu.invariant) in
    let was = c.thread_of.ensures ∙ uncharged k c.loop-cpu.cpu u all old c.requires.once c.loop-cpu.invariant (sym c.in-Runs.is ∙ does) in
    subst (λ (x : Thread). 0 < x.left → x.line ≤ 1000) (sym was) (bounds_at k u c.requires.ready.sound).working

pub charged-next-requires-clause-computed : goal.charged-next-requires-clause-computed
charged-next-requires-clause-computed c =
    let old = c.args.all.now in
    let all = c.loop-cpu.all in
    let k = plain_of old in
    let u = c.in-Runs.thread in
    let does = c.view_on.ensures all.scenario all.table.names all.groups (show_charged k c.loop-cpu.cpu all old refl c.requires.ready.whole c.requires.ready.hosted c.loop-cpu.invariant) in
    let was = c.thread_of.ensures ∙ uncharged k c.loop-cpu.cpu u all old c.requires.once c.loop-cpu.invariant (sym c.in-Runs.is ∙ does) in
    let sound = c.requires.ready.sound in
    omega (arith, ap (λ (x : Thread). x.computed) was, (bounds_at k u sound).computed, sound.present, sound.horizon)

pub renew-requires-clause-lives : goal.renew-requires-clause-lives
renew-requires-clause-lives c =
    let old = c.args.all.now in
    let all = c.loop-cpu.all in
    let k = plain_of old in
    let does = c.view_on.ensures all.scenario all.table.names all.groups (show_charged k c.loop-cpu.cpu all old refl c.requires.ready.whole c.requires.ready.hosted c.loop-cpu.invariant) in
    charged_lives k c.loop-cpu.cpu c.in-Runs.thread all old c.requires.ready.sound c.requires.once c.loop-cpu.invariant (sym c.in-Runs.is ∙ does)

pub renew-requires-clause-life : goal.renew-requires-clause-life
renew-requires-clause-life c =
    let old = c.args.all.now in
    let all = c.loop-cpu.all in
    let k = plain_of old in
    let does = c.view_on.ensures all.scenario all.table.names all.groups (show_charged k c.loop-cpu.cpu all old refl c.requires.ready.whole c.requires.ready.hosted c.loop-cpu.invariant) in
    let lives = charged_lives k c.loop-cpu.cpu c.in-Runs.thread all old c.requires.ready.sound c.requires.once c.loop-cpu.invariant (sym c.in-Runs.is ∙ does) in
    ap (λ (x : Thread). has_begun x.life) c.charged-next.ensures
    ∙ charged_steady (λ (x : Thread). has_begun x.life) all.scenario c.thread_of.result (λ _ _ _ _. refl)
    ∙ ap (λ (x : Thread). has_begun x.life) c.thread_of.ensures ∙ lives

pub loop-cpu-preserved : goal.loop-cpu-preserved
loop-cpu-preserved c =
    let old = c.args.all.now in
    let all = c.loop-cpu.all in
    let k = plain_of old in
    let p = c.loop-cpu.cpu in
    let does = c.view_on.ensures all.scenario all.table.names all.groups (show_charged k p all old refl c.requires.ready.whole c.requires.ready.hosted c.loop-cpu.invariant) in
    elim c.match-view_on.branch [
      | in-Runs w ↦
          rw w.all-is
          (one_charged k p w.in-Runs.thread all (record all { clusters = w.renew.new.clusters }) old w.charged-next.result c.requires.once c.requires.ready.sound.places c.loop-cpu.invariant (sym w.in-Runs.is ∙ does) (omega arith) (omega arith)
          (w.charged-next.ensures ∙ ap (charged all.scenario) w.thread_of.ensures)
          (puts_state all.scenario all.table.names all.groups all.clusters w.renew.new.clusters w.in-Runs.thread w.charged-next.result w.renew.ensures.puts)
          w.renew.ensures.puts.kept
          w.renew.ensures.puts.held
          (w.renew.ensures.noted _ c.loop-cpu.invariant.noted)
          refl)
      | in_default w ↦ rw w.all-is (none_more_charged k p all old c.view_on.result c.loop-cpu.invariant does (λ u is. w.in_default.not-Runs u is))
    ]

pub returns-clause-charged : goal.returns-clause-charged
returns-clause-charged c =
    let old = c.args.all.now in
    let count = cpu_count_joined old.scenario old.table.names old.groups old.clusters c.requires.ready.whole.laid in
    all_charged (plain_of old) c.loop-cpu.cpu c.loop-cpu.all old (search rules) c.loop-cpu.invariant

pub returns-clause-hosted : goal.returns-clause-hosted
returns-clause-hosted c = (show_charged (plain_of c.args.all.now) c.loop-cpu.cpu c.loop-cpu.all c.args.all.now refl c.requires.ready.whole c.requires.ready.hosted c.loop-cpu.invariant).hosted
