-- The limits that a definition keeps.
use Rattle.std.specs.Prelude.{◌≡◌, ◌≤◌, false, List, length, All}
use Rattle.lat_base.specs.declared.limits.TheConstants.{MOST_IN_CONTEST, MOST_VOTES}
use Rattle.lat_base.specs.Names.{AreNames, NamesFit, has_twice}
use Rattle.lat_base.specs.Shape.{IsShape}
use Rattle.election_json.specs.declared.contest_entry.ContestEntry.{ContestEntry}
use Rattle.election_json.specs.Styles.{DefinedStyle}

-- a vote limit and a number of targets from 1 to 64, and no target's id twice
pub record IsContest (contest : ContestEntry) : Type 0 where
  pub limited : (1 ≤ contest.limit) × (contest.limit ≤ MOST_VOTES)
  pub counted : (1 ≤ length contest.targets) × (length contest.targets ≤ MOST_IN_CONTEST)
  pub once : has_twice contest.targets ≡ false

-- at most 4,096 such contests
pub record AreContests (contests : List ContestEntry) : Type 0 where
  pub few : length contests ≤ 4096
  pub all : All IsContest contests

-- a style within the limits, whose names fit its shape
pub record IsStyle (style : DefinedStyle) : Type 0 where
  pub shaped : IsShape style.shape
  pub named : AreNames style.names.contests
  pub fits : NamesFit style.names.contests style.shape
