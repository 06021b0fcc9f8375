-- One turn of a search.
use Rattle.std.specs.Prelude.{◌≡◌, ℕ, zero, suc, true, false, List, [], ◌∷◌, ◌++◌}
use Rattle.tree_core.specs.declared.node.Node.{Node}
use Rattle.tree_core.specs.declared.node.Node.TheVariants.{Open}
use Rattle.tree_core.specs.Nodes.{is_pick}
use Rattle.tree_core.specs.Steps.{Steps}
use Rattle.tree_core.specs.Checks.{NodeHolds}
use Rattle.tree_search.specs.Habits.{Habits}
use Rattle.tree_search.specs.Memory.{after_node, IsRelated}

-- the node was picked at the state: it is a Close or a Fork, it holds there, the relation holds,
-- and the memory goes by the rule
pub record IsPicked {S B R P W : Type 0} (steps : Steps S B R) (habits : Habits S B R P W)
    (before later : List R) (s : S) (node : Node B R) : Type 0 where
  pub is_picked : is_pick node ≡ true
  pub holds : NodeHolds false steps s node
  pub related : IsRelated habits before [] s node
  pub memory : later ≡ after_node habits.rule before node

-- n open nodes
abbrev pub opens : {B R : Type 0} → ℕ → List (Node B R)
opens zero = []
opens (suc n) = Open ∷ opens n

-- the new nodes are the old ones with open ones behind them, at least one
abbrev pub AddsOpen : {B R : Type 0} → List (Node B R) → List (Node B R) → Type 0
AddsOpen old new = (n : ℕ) × (new ≡ old ++ opens (suc n))
