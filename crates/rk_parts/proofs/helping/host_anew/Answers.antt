use Rattle.std.proofs.Common.{sym, ◌∙◌}
use Rattle.rk_parts.proofs.NotedHostLemmas.{all_hosted, hosting_kept, idle_kept, none_hosted}
use Rattle.rk_parts.proofs.helping.host_anew.Goals as goal

pub returns-then-has_spinner-clause-kept : goal.returns-then-has_spinner-clause-kept
returns-then-has_spinner-clause-kept c =
    hosting_kept c.note_seats.new.clusters c.host_each.new.clusters c.host_each.ensures.hosting ∙ c.note_seats.ensures.kept ∙ c.note_links.ensures.kept

pub returns-then-has_spinner-clause-hosted : goal.returns-then-has_spinner-clause-hosted
returns-then-has_spinner-clause-hosted c =
    all_hosted c.args.clusters.now c.note_links.new.clusters c.note_seats.new.clusters c.host_each.new.clusters c.note_links.ensures.kept c.note_seats.ensures.kept c.note_links.ensures.links c.note_seats.ensures.links c.note_seats.ensures.seats
    c.host_each.ensures.hosting c.host_each.ensures.sizes

pub returns-else-has_spinner-clause-kept : goal.returns-else-has_spinner-clause-kept
returns-else-has_spinner-clause-kept c = idle_kept c.args.clusters.now c.host_none.new.clusters c.host_none.ensures

pub returns-else-has_spinner-clause-hosted : goal.returns-else-has_spinner-clause-hosted
returns-else-has_spinner-clause-hosted c =
    none_hosted c.args.clusters.now c.host_none.new.clusters (sym c.has_spinner.ensures ∙ c.if-has_spinner.false) c.host_none.ensures
