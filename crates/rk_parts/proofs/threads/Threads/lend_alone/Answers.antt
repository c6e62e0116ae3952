use Rattle.std.proofs.Common.{List, ap, subst, ◌∙◌}
use Rattle.rk_model.specs.declared.state.Thread.{Thread}
use Rattle.rk_model.specs.Lists.{nth}
use Rattle.rk_agg.specs.Shares.{found}
use Rattle.rk_parts.specs.Threads.{bearing_at, no_bearing, with_alone, LendAlone, Threads}
use Rattle.rk_parts.proofs.MarkLemmas.{alone_now, kept_alone}
use Rattle.rk_parts.proofs.threads.Threads.lend_alone.Goals as goal

pub invariant_of-self : goal.invariant_of-self
invariant_of-self c =
    kept_alone c.self.inside.places c.self.inside.stood c.self.inside.borne c.self.inside.shares c.lend_each.new.shares c.self.inside.marked c.self.inside.spun c.args.cluster c.self.invariant
    (c.lend_each.ensures
    ∙ ap (λ us. with_alone us (bearing_at c.as_slice.result.now) c.args.cluster (found c.self.inside.shares)) c.as_slice-2.ensures
    ∙ ap (λ (xs : List Thread). with_alone c.self.inside.marked (bearing_at xs) c.args.cluster (found c.self.inside.shares)) c.as_slice.ensures)

pub returns-clause-alone : goal.returns-clause-alone
returns-clause-alone c =
    let old : Threads = record { places = c.self.inside.places; stood = c.self.inside.stood; borne = c.self.inside.borne; shares = c.self.inside.shares } in
    let is =
    c.lend_each.ensures
    ∙ ap (λ us. with_alone us (bearing_at c.as_slice.result.now) c.args.cluster (found c.self.inside.shares)) c.as_slice-2.ensures
    ∙ ap (λ (xs : List Thread). with_alone c.self.inside.marked (bearing_at xs) c.args.cluster (found c.self.inside.shares)) c.as_slice.ensures in
    subst (λ (ts : Threads). LendAlone (nth no_bearing ts.borne) c.args.cluster (found ts.shares) → LendAlone (bearing_at ts.places) c.args.cluster (found c.lend_each.new.shares)) c.self.view_is
    (λ lent. alone_now c.self.inside.marked old c.args.cluster (found c.lend_each.new.shares) c.self.invariant.4 is lent)
    c.requires.alone
