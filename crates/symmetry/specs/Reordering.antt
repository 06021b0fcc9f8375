-- Reorderings of a deck: of its ballots, of the targets within a contest, and of contests of the
-- same limit and number of targets.
use Rattle.std.specs.Prelude.{ℕ, Bool, List}
use Rattle.std.specs.List.Sorted.{IsPermutation}
use Rattle.lat_base.specs.declared.contest.Contest.{Contest}
use Rattle.lat_base.specs.Shape.{target_count}
use Rattle.readings.specs.Turn.{IsTurn}
use Rattle.readings.specs.Structural.{IsStructural, relabelled}

-- f goes through the targets once each and takes contests to contests of the same limit and number
-- of targets, and so back
pub record IsReordering (contests : List Contest) (f : ℕ → ℕ) : Type 0 where
  pub back : ℕ → ℕ
  pub turn : ℕ → ℕ
  pub turn_back : ℕ → ℕ
  pub turns : IsTurn (target_count contests) f back
  pub forth : IsStructural contests f turn
  pub returns : IsStructural contests back turn_back

-- the result has the deck's ballots in some order, with their targets so reordered
pub record IsReordered (contests : List Contest) (deck result : List (List Bool)) : Type 0 where
  pub source : ℕ → ℕ
  pub targets : IsReordering contests source
  pub ballots : IsPermutation (relabelled (target_count contests) source deck) result
