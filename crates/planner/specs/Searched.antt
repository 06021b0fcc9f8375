-- What the search among the decks of one size shows.
use Rattle.std.specs.Prelude.{◌≡◌, ℕ, List, length}
use Rattle.lat_base.specs.declared.contest.Contest.{Contest}
use Rattle.lat_base.specs.Canonical.{IsCanonical}
use Rattle.lat_base.specs.Goodness.{IsGood}
use Rattle.lat_base.specs.Rules.{RuleSet}
use Rattle.close_rules.specs.declared.label.Label.{Label}
use Rattle.close_rules.specs.declared.reason.Reason.{Reason}
use Rattle.deck_state.specs.PartialDeck.{empty}
use Rattle.deck_space.specs.Steps.{deck_steps}
use Rattle.tree_core.specs.declared.node.Node.{Node}
use Rattle.tree_core.specs.Checks.{Checks}
use Rattle.tree_core.specs.Reading.{IsTree, tree_of}
use Rattle.cert_types.specs.declared.license.License.{License}
use Rattle.cert_types.specs.declared.proved.Proved.{Proved}
use Rattle.cert_types.specs.Proved.{IsProved}
use Rattle.planner.specs.declared.searched.Searched.{Searched}
use Rattle.planner.specs.declared.searched.Searched.TheVariants.{Good, Closed, Spent}
use Rattle.planner.specs.Eager.{IsEagerTree}
use Rattle.planner.specs.License.{IsSpentLicense, IsSearchedLicense}
use Rattle.planner.specs.Reach.{IsInReach}

-- a good canonical deck of k ballots, with its tree
pub record IsGoodOf (contests : List Contest) (rules : RuleSet) (k : ℕ)
    (proved : Proved) : Type 0 where
  pub is_proved : IsProved contests rules proved
  pub good : IsGood contests rules proved.deck.ballots
  pub canonical : IsCanonical contests proved.deck.ballots
  pub size : length proved.deck.ballots ≡ k

-- an eager tree that shows that no deck of k ballots is good
pub record IsClosedTree (contests : List Contest) (rules : RuleSet) (k : ℕ)
    (nodes : List (Node Label Reason)) : Type 0 where
  pub lists : IsTree nodes
  pub checks : Checks deck_steps (empty contests rules k) (tree_of nodes)
  pub eager : IsEagerTree (empty contests rules k) nodes

-- a license of a search with that budget, which passed nothing over
pub record IsSpentAt (contests : List Contest) (rules : RuleSet) (k budget : ℕ)
    (license : License) : Type 0 where
  pub is_license : IsSpentLicense contests rules k budget license
  pub searched : IsSearchedLicense contests rules k license
  pub reach : IsInReach contests k budget license

abbrev pub IsSearched : List Contest → RuleSet → ℕ → ℕ → Searched → Type 0
IsSearched contests rules k budget (Good proved) = IsGoodOf contests rules k proved
IsSearched contests rules k budget (Closed nodes) = IsClosedTree contests rules k nodes
IsSearched contests rules k budget (Spent license) = IsSpentAt contests rules k budget license
