use Rattle.std.proofs.Common.{◌≡◌, rules, Option, refl, ℕ, ap, sym, ◌∙◌, subst}
use Rattle.std.specs.Option.{option_to_list}
use Rattle.rk_model.specs.declared.entry.Answer.{Answer}
use Rattle.rk_model.specs.declared.scenario.Scenario.{Scenario}
use Rattle.rk_model.specs.Scheduling.Settling.{settle}
use Rattle.rk_model.specs.Directives.Outcomes.{after_outcome, last_of}
use Rattle.rk_model.specs.Steps.{action}
use Rattle.rk_parts.specs.declared.parts.AllParts.{AllParts}
use Rattle.rk_parts.specs.Joined.{plain_of}
use Rattle.rk_parts.specs.Lent.{Frame, AreLaid, layouts}
use Rattle.rk_directives.specs.Does.{Untouched}
use Rattle.rk_kernel.proofs.CallerLemmas.{acting_of}
use Rattle.rk_directives.proofs.KeptHoldingLemmas.{still_held}
use Rattle.rk_directives.proofs.DirectiveLemmas.LentLemmas.{laid_kept}
use Rattle.rk_directives.proofs.DirectiveLemmas.ActionLemmas.{action_done, line_after, bodies_after, lives_after, followed}
use Rattle.rk_kernel.proofs.PartsSettledLemmas.{as_settled, few_clusters, framed_contributes, have_each_priority, IsChanged, settled}
use Rattle.rk_kernel.proofs.steps.act_by.Goals as goal

pub action-answer-requires-clause-acts : goal.action-answer-requires-clause-acts
action-answer-requires-clause-acts c = acting_of (plain_of c.args.all.now) c.args.cpu c.args.thread c.requires.ready.sound c.requires.caller

pub conclude-reply-requires-clause-lives : goal.conclude-reply-requires-clause-lives
conclude-reply-requires-clause-lives c =
    lives_after (plain_of c.args.all.now) (plain_of c.action-answer.new.all) c.args.thread c.action-answer.result (acting_of (plain_of c.args.all.now) c.args.cpu c.args.thread c.requires.ready.sound c.requires.caller) c.action-answer.ensures.told c.action-answer.ensures.state

pub conclude-reply-requires-clause-line : goal.conclude-reply-requires-clause-line
conclude-reply-requires-clause-line c =
    line_after (plain_of c.args.all.now) (plain_of c.action-answer.new.all) c.args.thread (acting_of (plain_of c.args.all.now) c.args.cpu c.args.thread c.requires.ready.sound c.requires.caller) c.action-answer.ensures.state

pub conclude-reply-requires-clause-bodies : goal.conclude-reply-requires-clause-bodies
conclude-reply-requires-clause-bodies c =
    bodies_after (plain_of c.args.all.now) (plain_of c.action-answer.new.all) c.args.thread (acting_of (plain_of c.args.all.now) c.args.cpu c.args.thread c.requires.ready.sound c.requires.caller) c.action-answer.ensures.state

pub contribute-requires-clause-lent : goal.contribute-requires-clause-lent
contribute-requires-clause-lent c =
    (framed_contributes c.args.all.now c.action-answer.new.all.clusters c.conclude-reply.new.clusters c.requires.ready c.action-answer.ensures.laid c.action-answer.ensures.kept c.action-answer.ensures.accounts c.conclude-reply.ensures.next.kept).lent

pub contribute-requires-clause-lives : goal.contribute-requires-clause-lives
contribute-requires-clause-lives c =
    (framed_contributes c.args.all.now c.action-answer.new.all.clusters c.conclude-reply.new.clusters c.requires.ready c.action-answer.ensures.laid c.action-answer.ensures.kept c.action-answer.ensures.accounts c.conclude-reply.ensures.next.kept).lives

pub contribute-requires-clause-homes : goal.contribute-requires-clause-homes
contribute-requires-clause-homes c =
    (framed_contributes c.args.all.now c.action-answer.new.all.clusters c.conclude-reply.new.clusters c.requires.ready c.action-answer.ensures.laid c.action-answer.ensures.kept c.action-answer.ensures.accounts c.conclude-reply.ensures.next.kept).homes

pub action-answer-requires-clause-each : goal.action-answer-requires-clause-each
action-answer-requires-clause-each c = have_each_priority c.args.all.now c.requires.ready.whole c.requires.ready.noted (few_clusters c.args.all.now c.requires.ready)

pub returns : goal.returns
returns c =
    let all = c.args.all.now in
    let k = plain_of all in
    let t = c.args.thread in
    let o = action k t in
    let acts = acting_of k c.args.cpu t c.requires.ready.sound c.requires.caller in
    let done = c.action-answer.new.all in
    let mid : AllParts = record done { clusters = c.conclude-reply.new.clusters } in
    let same : done.scenario ≡ all.scenario = ap (λ (u : Untouched). u.scenario) c.action-answer.ensures.rest in
    let lies : AreLaid done.scenario.clusters (layouts done.clusters) = subst (λ (s : Scenario). AreLaid s.clusters (layouts done.clusters)) (sym same) c.action-answer.ensures.laid in
    let ends = c.conclude-reply.ensures.next in
    let is = followed k t o c.action-answer.result (plain_of done) (plain_of mid) c.action-answer.ensures.told c.action-answer.ensures.state (ends.state done.table.names done.groups lies) in
    let changed : IsChanged all mid (after_outcome k t o) = record {
      settles = (action_done k t acts).after;
      state = is;
      laid = laid_kept all.scenario.clusters done.clusters mid.clusters ends.kept c.action-answer.ensures.laid;
      kept = ap (λ (f : Frame). f.stored) ends.kept ∙ c.action-answer.ensures.kept;
      accounts = ap (λ (f : Frame). f.accounts) ends.kept ∙ c.action-answer.ensures.accounts;
      held = still_held done.clusters mid.clusters done.groups done.groups ends.held (λ i. refl) c.action-answer.ensures.held;
      rest = c.action-answer.ensures.rest;
    } in
    let last = c.last_of-last.ensures ∙ ap (λ (a : Answer). last_of a) c.action-answer.ensures.told in
    let after = settled all mid c.contribute.new.clusters c.host_parts.new.clusters (after_outcome k t o) (option_to_list c.last_of-last.result) (as_settled all c.requires.ready) changed c.contribute.ensures.flat c.contribute.ensures.lent (c.host_parts.ensures.kept ∙ c.settle_parts.ensures) c.host_parts.ensures.hosted in
    record {
      entry = search rules;
      next = after.state ∙ ap (λ (l : Option ℕ). settle k (after_outcome k t o) (option_to_list l)) last;
      ready = after.ready;
    }
