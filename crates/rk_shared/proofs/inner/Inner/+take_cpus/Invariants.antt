use Rattle.std.proofs.Common.{vec_len}
use Rattle.rk_shared.proofs.inner.Inner.+take_cpus.Given as goal

abbrev pub decreases-take_cpus : goal.decreases-take_cpus
decreases-take_cpus g l = vec_len l.cpus
