-- When what a search left shows how far it came.
use Rattle.std.specs.Prelude.{◌≡◌, ◌⊎◌, ℕ, Bool, true, List, length}
use Rattle.lat_base.specs.declared.contest.Contest.{Contest}
use Rattle.lat_base.specs.Canonical.{IsCanonical}
use Rattle.lat_base.specs.Rules.{RuleSet, Obeys}
use Rattle.lat_base.specs.Shape.{target_count}
use Rattle.lat_ballots.specs.Deck.{Ballots}
use Rattle.deck_state.specs.PartialDeck.{empty}
use Rattle.deck_space.specs.Steps.{deck_steps}
use Rattle.evade_space.specs.declared.skipped.Skipped.{Skipped}
use Rattle.evade_space.specs.Sought.{own_sought, start}
use Rattle.evade_space.specs.Steps.{evade_steps}
use Rattle.tree_core.specs.declared.node.Node.{Node}
use Rattle.tree_core.specs.Checks.{OpenChecks}
use Rattle.tree_core.specs.Places.{IsFirstFault}
use Rattle.tree_core.specs.Reading.{IsTree, tree_of}
use Rattle.cert_types.specs.declared.license.License.{License}
use Rattle.cert_types.specs.declared.license.License.TheVariants.{Tree, Deck}
use Rattle.cert_types.specs.Proved.{IsRobustFault}

-- a canonical deck of the style of `from` ballots that obeys the rules
pub record IsAttackedDeck (contests : List Contest) (rules : RuleSet) (from : ℕ)
    (deck : Ballots) : Type 0 where
  pub targets : deck.targets ≡ target_count contests
  pub size : length deck.ballots ≡ from
  pub canonical : IsCanonical contests deck.ballots
  pub obeys : Obeys contests rules deck.ballots

-- the nodes list exactly one tree, and it checks, but for its open nodes, over the misassignments,
-- other than the identity, that leave the deck's own report as it is
pub record IsOpenRobustTree (contests : List Contest) (deck : List (List Bool))
    (nodes : List (Node ℕ Skipped)) : Type 0 where
  pub lists : IsTree nodes
  pub checks : let sought = own_sought contests deck in
      OpenChecks (evade_steps sought) (start sought) (tree_of nodes)

-- a license holds: an open tree over the decks of `from` ballots, or such a deck with an open tree
abbrev pub IsLicense : List Contest → RuleSet → ℕ → License → Type 0
IsLicense contests rules from (Tree nodes) =
    IsTree nodes × OpenChecks deck_steps (empty contests rules from) (tree_of nodes)
IsLicense contests rules from (Deck deck nodes) =
    IsAttackedDeck contests rules from deck × IsOpenRobustTree contests deck.ballots nodes

-- the first node that doesn't hold; 0 also where the deck isn't as it must be
abbrev pub IsLicenseFault : List Contest → RuleSet → ℕ → License → ℕ → Type 0
IsLicenseFault contests rules from (Tree nodes) i =
    IsFirstFault true deck_steps (empty contests rules from) nodes i
IsLicenseFault contests rules from (Deck deck nodes) i =
    (¬ IsAttackedDeck contests rules from deck × (i ≡ 0))
    ⊎ (IsAttackedDeck contests rules from deck × IsRobustFault true contests deck.ballots nodes i)
