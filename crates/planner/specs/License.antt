-- What an answer that leaves sizes open shows: a search or an attack that spent its budget.
use Rattle.std.specs.Prelude.{ℕ, List}
use Rattle.lat_base.specs.declared.contest.Contest.{Contest}
use Rattle.lat_base.specs.Rules.{RuleSet}
use Rattle.deck_state.specs.PartialDeck.{empty}
use Rattle.deck_state.specs.Shown.{decided_as}
use Rattle.deck_space.specs.Steps.{deck_steps}
use Rattle.evade_space.specs.Trees.{IsOpenAttack}
use Rattle.tree_core.specs.Nodes.{IsGapless}
use Rattle.tree_search.specs.Outcome.{IsOpenTree}
use Rattle.cert_types.specs.declared.license.License.{License}
use Rattle.cert_types.specs.declared.license.License.TheVariants.{Tree, Deck}
use Rattle.cert_types.specs.License.{IsAttackedDeck}
use Rattle.planner.specs.Choosing.{NoCheap}
use Rattle.planner.specs.Eager.{IsEagerTree}

-- an open tree of so many nodes over the decks of k ballots; or a canonical deck of k ballots that
-- obeys the rules, with the open tree of an attack of so many nodes
abbrev pub IsSpentLicense : List Contest → RuleSet → ℕ → ℕ → License → Type 0
IsSpentLicense contests rules k budget (Tree nodes) =
    IsOpenTree deck_steps (empty contests rules k) budget nodes
IsSpentLicense contests rules k budget (Deck deck nodes) =
    IsAttackedDeck contests rules k deck × IsOpenAttack contests deck.ballots budget nodes

-- nothing was passed over: the tree is gapless, and one over decks is eager; no reason but a
-- misassignment holds of a deck
abbrev pub IsSearchedLicense : List Contest → RuleSet → ℕ → License → Type 0
IsSearchedLicense contests rules k (Tree nodes) =
    IsGapless nodes × IsEagerTree (empty contests rules k) nodes
IsSearchedLicense contests rules k (Deck deck nodes) =
    IsGapless nodes × NoCheap (decided_as contests rules k deck.ballots)
