-- The lower part of an answer: that no deck of fewer ballots is good.
use Rattle.std.specs.Prelude.{◌≡◌, ℕ, ◌+◌, Option, Some, None, List}
use Rattle.lat_base.specs.declared.contest.Contest.{Contest}
use Rattle.lat_base.specs.Rules.{RuleSet}
use Rattle.cert_types.specs.Lower.{IsLower, lower_root}
use Rattle.cert_types.specs.LowerPart.{LowerPart}
use Rattle.planner.specs.Eager.{IsEagerTree}

-- for decks of fewer than k ballots: none where k is 0, else one that holds, of k - 1 ballots
abbrev pub IsLowerFor : List Contest → RuleSet → ℕ → Option LowerPart → Type 0
IsLowerFor contests rules k None = k ≡ 0
IsLowerFor contests rules k (Some lower) = (lower.size + 1 ≡ k) × IsLower contests rules lower

-- the tree forks only where it must
abbrev pub IsEagerLower : List Contest → RuleSet → Option LowerPart → Type 0
IsEagerLower contests rules None = Unit {0}
IsEagerLower contests rules (Some lower) = IsEagerTree (lower_root contests rules lower) lower.tree
