-- When a lower part shows that no deck of its size, or of fewer ballots, is good.
use Rattle.std.specs.Prelude.{◌≤◌, ℕ, false, List}
use Rattle.lat_base.specs.declared.limits.TheConstants.{MOST_BALLOTS}
use Rattle.lat_base.specs.declared.contest.Contest.{Contest}
use Rattle.lat_base.specs.Part.{IsPart, part}
use Rattle.lat_base.specs.Rules.{RuleSet}
use Rattle.deck_state.specs.PartialDeck.{PartialDeck, empty}
use Rattle.deck_space.specs.Steps.{deck_steps}
use Rattle.tree_core.specs.Checks.{Checks}
use Rattle.tree_core.specs.Places.{IsFirstFault}
use Rattle.tree_core.specs.Reading.{IsTree, tree_of}
use Rattle.cert_types.specs.LowerPart.{LowerPart}

-- the part's decks of that size, nothing of them decided
abbrev pub lower_root : List Contest → RuleSet → LowerPart → PartialDeck
lower_root contests rules lower = empty (part contests lower.contests) rules lower.size

-- the contests are a part of the style, the nodes list exactly one tree, and it checks there: so no
-- deck of the part of that size is good
pub record IsLower (contests : List Contest) (rules : RuleSet) (lower : LowerPart) : Type 0 where
  pub is_part : IsPart contests lower.contests
  pub few : lower.size ≤ MOST_BALLOTS
  pub lists : IsTree lower.tree
  pub checks : Checks deck_steps (lower_root contests rules lower) (tree_of lower.tree)

-- the first node of its tree that doesn't hold
abbrev pub IsLowerFault : List Contest → RuleSet → LowerPart → ℕ → Type 0
IsLowerFault contests rules lower i =
    IsFirstFault false deck_steps (lower_root contests rules lower) lower.tree i
