-- Robust and good decks, and the least size of a good one.
use Rattle.std.specs.Prelude.{◌≡◌, ◌<◌, ℕ, Bool, List, length}
use Rattle.lat_base.specs.declared.contest.Contest.{Contest}
use Rattle.lat_base.specs.Shape.{target_count}
use Rattle.lat_base.specs.Misassignment.{IsMisassignment, identity}
use Rattle.lat_base.specs.Tally.{report}
use Rattle.lat_base.specs.Deck.{Fits}
use Rattle.lat_base.specs.Rules.{RuleSet, Obeys}

-- every misassignment but the identity changes the report
abbrev pub IsRobust : List Contest → List (List Bool) → Type 0
IsRobust contests deck =
    (s : List ℕ) → IsMisassignment (target_count contests) s
    → report contests deck s ≡ report contests deck (identity (target_count contests))
    → s ≡ identity (target_count contests)

-- a deck of the style that is robust and obeys the rules
pub record IsGood (contests : List Contest) (rules : RuleSet) (deck : List (List Bool))
    : Type 0 where
  pub fits : Fits (target_count contests) deck
  pub robust : IsRobust contests deck
  pub obeys : Obeys contests rules deck

-- no deck of fewer than n ballots is good
abbrev pub NoGoodBelow : List Contest → RuleSet → ℕ → Type 0
NoGoodBelow contests rules n = (deck : List (List Bool)) → length deck < n
    → ¬ IsGood contests rules deck

-- some deck of k ballots is good, and none of fewer
abbrev pub IsLeastSize : List Contest → RuleSet → ℕ → Type 0
IsLeastSize contests rules k =
    ((deck : List (List Bool)) × IsGood contests rules deck × (length deck ≡ k))
    × NoGoodBelow contests rules k
