use Rattle.rk_parts.proofs.ContributingLemmas.{fresh_same}
use Rattle.rk_parts.proofs.contribute.contribute_anew.Goals as goal

pub remake_each-requires : goal.remake_each-requires
remake_each-requires c = record {
  same = fresh_same c.touch_held.new.touched c.find_stale.new.stale c.args.clusters.now
      (record {
        bear = λ t low. c.touch_marked.ensures.rest t (c.touch_held.ensures.kept t low);
        hold = c.touch_held.ensures.apart;
      })
      c.requires.lent c.requires.lives c.find_stale.ensures;
  elsewhere = c.requires.lent.elsewhere;
}
