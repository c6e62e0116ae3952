use Rattle.std.proofs.Common.{sym}
use Rattle.rk_model.proofs.KeyLemmas.{has_position}
use Rattle.rk_ids.proofs.FreeIndexLemmas.{key}
use Rattle.rk_ids.proofs.ids.Ids.is_live.Goals as goal

pub returns-clause-lives : goal.returns-clause-lives
returns-clause-lives c = rw (c.position_of.ensures, c.as_slice.ensures, c.len.ensures, ← c.self.view_is) (sym (has_position key c.args.index c.self.inside.live))
