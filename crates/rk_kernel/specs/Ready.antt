-- A running kernel between two steps.
use Rattle.std.specs.Prelude.{length}
use Rattle.rk_parts.specs.declared.parts.AllParts.{AllParts}
use Rattle.rk_parts.specs.Hosted.{AreHosted}
use Rattle.rk_parts.specs.Joined.{plain_of}
use Rattle.rk_parts.specs.Noted.{AreNoted}
use Rattle.rk_parts.specs.Whole.{AreWhole}
use Rattle.rk_directives.specs.Sound.{IsSound}

-- All parts are whole, the state that they stand for is sound, and in each of them it is noted how its threads stand.
pub record IsSettled (all : AllParts) : Type 0 where
  pub whole : AreWhole all
  pub sound : IsSound (plain_of all)
  pub noted : AreNoted (length all.scenario.clusters) all.clusters

-- Between two steps it is also noted whom processors help.
pub record IsReady (all : AllParts) : Type 0 where
  pub whole : AreWhole all
  pub sound : IsSound (plain_of all)
  pub noted : AreNoted (length all.scenario.clusters) all.clusters
  pub hosted : AreHosted all.clusters
