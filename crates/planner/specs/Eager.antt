-- Trees of partial decks that fork only where they must.
use Rattle.std.specs.Prelude.{ℕ, if◌then◌else◌, List, [], ◌∷◌}
use Rattle.circular_buffer.specs.Buffer.{keep_last}
use Rattle.close_rules.specs.declared.label.Label.{Label}
use Rattle.close_rules.specs.declared.reason.Reason.{Reason}
use Rattle.deck_state.specs.PartialDeck.{PartialDeck}
use Rattle.deck_space.specs.Steps.{deck_steps}
use Rattle.tree_core.specs.declared.node.Node.{Node}
use Rattle.tree_core.specs.declared.node.Node.TheVariants.{Close, Fork, Open}
use Rattle.tree_core.specs.Places.{EachPlace}
use Rattle.planner.specs.Choosing.{is_evade, NoneHolds, NoCheap}

-- the misassignments by which nodes are closed, in order
abbrev pub evades_in : List (Node Label Reason) → List Reason
evades_in [] = []
evades_in (Close r ∷ nodes) = if is_evade r then r ∷ evades_in nodes else evades_in nodes
evades_in (Fork l n ∷ nodes) = evades_in nodes
evades_in (Open ∷ nodes) = evades_in nodes

-- the last n of them
abbrev pub last_evades : ℕ → List (Node Label Reason) → List Reason
last_evades n nodes = keep_last n (evades_in nodes)

-- a node with these before it in preorder is a Fork only where no reason but a misassignment holds,
-- nor any of the last n misassignments before it
abbrev pub IsEagerAt : ℕ → List (Node Label Reason) → PartialDeck → Node Label Reason → Type 0
IsEagerAt n before p (Close r) = Unit {0}
IsEagerAt n before p (Fork l kids) = NoCheap p × NoneHolds p (last_evades n before)
IsEagerAt n before p Open = Unit {0}

-- each node of the tree is so, of the last 64 misassignments
abbrev pub IsEagerTree : PartialDeck → List (Node Label Reason) → Type 0
IsEagerTree root nodes = EachPlace deck_steps root nodes (IsEagerAt 64)
