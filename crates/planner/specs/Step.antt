-- What the plan for one size shows.
use Rattle.std.specs.Prelude.{◌≡◌, ◌≢◌, ℕ, Some, List}
use Rattle.lat_base.specs.declared.contest.Contest.{Contest}
use Rattle.lat_base.specs.Rules.{RuleSet}
use Rattle.cert_types.specs.Lower.{IsLower}
use Rattle.cert_types.specs.LowerPart.{LowerPart}
use Rattle.planner.specs.declared.step.Step.{Step}
use Rattle.planner.specs.declared.step.Step.TheVariants.{Good, Closed, Spent}
use Rattle.planner.specs.Answer.{most}
use Rattle.planner.specs.Lower.{IsEagerLower}
use Rattle.planner.specs.Searched.{IsGoodOf, IsSpentAt}
use Rattle.planner.specs.Tried.{AreTried}

-- a lower part of k ballots that holds, with an eager tree
pub record IsLowerOf (contests : List Contest) (rules : RuleSet) (k : ℕ)
    (lower : LowerPart) : Type 0 where
  pub size : lower.size ≡ k
  pub is_lower : IsLower contests rules lower
  pub eager : IsEagerLower contests rules (Some lower)

-- at the size of the plain deck that deck is good; at another a deck is good, or none is, or the
-- budget was spent and every pattern was tried
abbrev pub IsStep : List Contest → RuleSet → ℕ → ℕ → Step → Type 0
IsStep contests rules k budget (Good proved) = IsGoodOf contests rules k proved
IsStep contests rules k budget (Closed lower) =
    IsLowerOf contests rules k lower × (k ≢ most contests rules)
IsStep contests rules k budget (Spent license) =
    IsSpentAt contests rules k budget license
    × AreTried contests rules k budget
    × (k ≢ most contests rules)
