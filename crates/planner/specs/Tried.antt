-- Decks that were attacked without success.
use Rattle.std.specs.Prelude.{◌⊎◌, ℕ, Bool, List}
use Rattle.lat_base.specs.declared.contest.Contest.{Contest}
use Rattle.lat_base.specs.Canonical.{IsCanonical}
use Rattle.lat_base.specs.Goodness.{IsRobust}
use Rattle.lat_base.specs.Rules.{RuleSet}
use Rattle.deck_builder.specs.Pattern.{CanPropose, pattern, pattern_ballots}
use Rattle.evade_space.specs.declared.skipped.Skipped.{Skipped}
use Rattle.evade_space.specs.Trees.{IsOpenAttack}
use Rattle.symmetry.specs.Reordering.{IsReordered}
use Rattle.tree_core.specs.declared.node.Node.{Node}
use Rattle.tree_core.specs.Nodes.{IsGapless}

-- a canonical deck that arises from a deck by reordering, with the gapless open tree of an attack
-- of so many nodes
pub record IsOpenCopy (contests : List Contest) (budget : ℕ) (deck copy : List (List Bool))
    (nodes : List (Node ℕ Skipped)) : Type 0 where
  pub canonical : IsCanonical contests copy
  pub reordered : IsReordered contests deck copy
  pub attack : IsOpenAttack contests copy budget nodes
  pub gapless : IsGapless nodes

-- a deck isn't robust, or the attack on a canonical copy of it is spent
abbrev pub IsTriedDeck : List Contest → ℕ → List (List Bool) → Type 0
IsTriedDeck contests budget deck =
    ¬ IsRobust contests deck
    ⊎ ((copy : List (List Bool)) × (nodes : List (Node ℕ Skipped))
    × IsOpenCopy contests budget deck copy nodes)

-- the pattern of k ballots of that number was tried, where there is one and it fits
abbrev pub IsTriedPattern : List Contest → RuleSet → ℕ → ℕ → ℕ → Type 0
IsTriedPattern contests rules k budget turn =
    CanPropose contests rules k turn
    → IsTriedDeck contests budget (pattern_ballots (pattern contests rules k turn))

-- every pattern of k ballots was
abbrev pub AreTried : List Contest → RuleSet → ℕ → ℕ → Type 0
AreTried contests rules k budget = (turn : ℕ) → IsTriedPattern contests rules k budget turn
