-- Trying everything that begins in one way.
use Rattle.std.specs.Prelude.{◌≡◌, ◌≢◌, ℕ, Bool, List, length, take}
use Rattle.std.specs.List.{flat_map}
use Rattle.lat_base.specs.declared.contest.Contest.{Contest}
use Rattle.lat_base.specs.Shape.{target_count}
use Rattle.lat_base.specs.Tally.{report}
use Rattle.lat_base.specs.Misassignment.{IsMisassignment, identity}
use Rattle.lat_base.specs.Rules.{RuleSet}
use Rattle.lat_base.specs.Goodness.{IsGood}

-- no misassignment that begins with these sources leaves the report equal, but the identity
abbrev pub RobustFrom : List Contest → List (List Bool) → List ℕ → Type 0
RobustFrom contests deck front =
    (s : List ℕ) → IsMisassignment (target_count contests) s → take (length front) s ≡ front
    → report contests deck s ≡ report contests deck (identity (target_count contests))
    → s ≡ identity (target_count contests)

-- a misassignment that begins with these sources, isn't the identity, and leaves the report equal
pub record EvadesFrom (contests : List Contest) (deck : List (List Bool)) (front : List ℕ) :
    Type 0 where
  pub s : List ℕ
  pub is : IsMisassignment (target_count contests) s
  pub begins : take (length front) s ≡ front
  pub same : report contests deck s ≡ report contests deck (identity (target_count contests))
  pub other : s ≢ identity (target_count contests)

-- the marks of a deck, ballot by ballot
abbrev pub marks_of : List (List Bool) → List Bool
marks_of deck = flat_map (λ ballot. ballot) deck

-- no deck of k ballots whose marks begin so is good
abbrev pub NoGoodFrom : List Contest → RuleSet → ℕ → List Bool → Type 0
NoGoodFrom contests rules k front =
    (deck : List (List Bool)) → length deck ≡ k → take (length front) (marks_of deck) ≡ front
    → ¬ IsGood contests rules deck
