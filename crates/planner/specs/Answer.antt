-- The answers of the planner.
use Rattle.std.specs.Prelude.{◌≡◌, ℕ, ◌+◌, ◌<◌, ◌≤◌, Option, Some, None, List, length}
use Rattle.lat_base.specs.declared.contest.Contest.{Contest}
use Rattle.lat_base.specs.Canonical.{IsCanonical}
use Rattle.lat_base.specs.Goodness.{IsGood, NoGoodBelow, IsLeastSize}
use Rattle.lat_base.specs.Rules.{RuleSet}
use Rattle.lat_base.specs.Shape.{target_count}
use Rattle.lat_ballots.specs.Plain.{plain_size}
use Rattle.cert_types.specs.declared.proved.Proved.{Proved}
use Rattle.cert_types.specs.Lower.{IsLower}
use Rattle.cert_types.specs.LowerPart.{LowerPart}
use Rattle.cert_types.specs.Proved.{IsProved}
use Rattle.planner.specs.declared.answer.Answer.{Answer}
use Rattle.planner.specs.declared.answer.Answer.TheVariants.{Least, NoneWithin, Spent}
use Rattle.planner.specs.declared.kept.Kept.{Kept}
use Rattle.planner.specs.License.{IsSpentLicense, IsSearchedLicense}
use Rattle.planner.specs.Lower.{IsLowerFor, IsEagerLower}
use Rattle.planner.specs.Tried.{AreTried}

-- how many ballots the plain deck has
abbrev pub most : List Contest → RuleSet → ℕ
most contests rules = plain_size (target_count contests) rules

-- a good canonical deck of at most `max` ballots with its tree, and no deck of fewer is good, as
-- the lower part shows
pub record IsLeast (contests : List Contest) (rules : RuleSet) (max : ℕ) (proved : Proved)
    (lower : Option LowerPart) : Type 0 where
  pub is_proved : IsProved contests rules proved
  pub good : IsGood contests rules proved.deck.ballots
  pub canonical : IsCanonical contests proved.deck.ballots
  pub within : length proved.deck.ballots ≤ max
  pub least : IsLeastSize contests rules (length proved.deck.ballots)
  pub lower_for : IsLowerFor contests rules (length proved.deck.ballots) lower

-- no deck of at most `max` ballots is good, as the lower part shows; the plain deck has more
pub record IsNoneWithin (contests : List Contest) (rules : RuleSet) (max : ℕ)
    (lower : LowerPart) : Type 0 where
  pub none : NoGoodBelow contests rules (max + 1)
  pub size : lower.size ≡ max
  pub is_lower : IsLower contests rules lower
  pub plain : max < most contests rules

-- a good deck of more than `from` and at most `top` ballots with its tree
pub record IsBetween (contests : List Contest) (rules : RuleSet) (from top : ℕ)
    (proved : Proved) : Type 0 where
  pub is_proved : IsProved contests rules proved
  pub good : IsGood contests rules proved.deck.ballots
  pub more : from < length proved.deck.ballots
  pub within : length proved.deck.ballots ≤ top

-- one of at most `max` ballots, and of at most as many as the plain deck where `max` allows that
-- deck; there is none only where it doesn't
abbrev pub IsBest : List Contest → RuleSet → ℕ → ℕ → Option Proved → Type 0
IsBest contests rules from max None = max < most contests rules
IsBest contests rules from max (Some proved) =
    IsBetween contests rules from max proved
    × (most contests rules ≤ max → length proved.deck.ballots ≤ most contests rules)

-- no deck of fewer than `from` ballots is good, as the lower part shows; whether one of `from` is
-- wasn't found within the budget
pub record IsSpent (contests : List Contest) (rules : RuleSet) (max budget : ℕ)
    (kept : Kept) : Type 0 where
  pub within : kept.from ≤ max
  pub none : NoGoodBelow contests rules kept.from
  pub lower_for : IsLowerFor contests rules kept.from kept.lower
  pub is_best : IsBest contests rules kept.from max kept.best
  pub is_license : IsSpentLicense contests rules kept.from budget kept.license

-- an answer for a style, its rules, a greatest number of ballots and a budget
abbrev pub IsAnswer : List Contest → RuleSet → ℕ → ℕ → Answer → Type 0
IsAnswer contests rules max budget (Least proved lower) = IsLeast contests rules max proved lower
IsAnswer contests rules max budget (NoneWithin lower) = IsNoneWithin contests rules max lower
IsAnswer contests rules max budget (Spent kept) = IsSpent contests rules max budget kept

-- nothing was passed over on the way to it: trees are eager, that of a license is gapless too, and
-- where sizes are left open each pattern of the first of them was tried
abbrev pub IsSearchedAnswer : List Contest → RuleSet → ℕ → Answer → Type 0
IsSearchedAnswer contests rules budget (Least proved lower) = IsEagerLower contests rules lower
IsSearchedAnswer contests rules budget (NoneWithin lower) =
    IsEagerLower contests rules (Some lower)
IsSearchedAnswer contests rules budget (Spent kept) =
    IsEagerLower contests rules kept.lower
    × IsSearchedLicense contests rules kept.from kept.license
    × AreTried contests rules kept.from budget

-- sizes are left open from no earlier one on
abbrev pub IsNotBelow : ℕ → Answer → Type 0
IsNotBelow first (Least proved lower) = Unit {0}
IsNotBelow first (NoneWithin lower) = Unit {0}
IsNotBelow first (Spent kept) = first ≤ kept.from
