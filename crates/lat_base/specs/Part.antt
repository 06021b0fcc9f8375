-- A part of a style: some of its contests, and a deck cut to their targets.
use Rattle.std.specs.Prelude.{◌<◌, ℕ, Bool, List, length, map, All}
use Rattle.std.specs.List.{flat_map}
use Rattle.std.specs.List.Sorted.{IsStrictlyIncreasing}
use Rattle.lat_base.specs.declared.contest.Contest.{Contest}
use Rattle.lat_base.specs.Shape.{contest_at}
use Rattle.lat_base.specs.Tally.{marks_in}

-- at least one contest of the style, rising
pub record IsPart (contests : List Contest) (chosen : List ℕ) : Type 0 where
  pub some : 0 < length chosen
  pub within : All (λ c. c < length contests) chosen
  pub rising : IsStrictlyIncreasing chosen

-- the style of these contests
abbrev pub part : List Contest → List ℕ → List Contest
part contests chosen = map (contest_at contests) chosen

-- a ballot cut to the targets of these contests
abbrev pub cut : List Contest → List ℕ → List Bool → List Bool
cut contests chosen ballot = flat_map (marks_in contests ballot) chosen

-- a deck whose ballots are cut so
abbrev pub restricted : List Contest → List ℕ → List (List Bool) → List (List Bool)
restricted contests chosen deck = map (cut contests chosen) deck
