-- What a tabulation needs of its arguments.
use Rattle.std.specs.Prelude.{◌≡◌, ◌<◌, ℕ, List, length, All}
use Rattle.lat_base.specs.declared.contest.Contest.{Contest}
use Rattle.lat_base.specs.Shape.{target_count}

-- a source for each target of the style, each of them a target
pub record AreRead (contests : List Contest) (sources : List ℕ) : Type 0 where
  pub long : length sources ≡ target_count contests
  pub within : All (λ t. t < target_count contests) sources
