-- Close, Fork and Open nodes in a list of nodes.
use Rattle.std.specs.Prelude.{◌≡◌, ℕ, ◌<◌, Bool, true, false, Some, List, slice_get}
use Rattle.tree_core.specs.declared.node.Node.{Node}
use Rattle.tree_core.specs.declared.node.Node.TheVariants.{Close, Fork, Open}

-- whether a node is a Close or a Fork
abbrev pub is_pick : {B R : Type 0} → Node B R → Bool
is_pick (Close r) = true
is_pick (Fork l n) = true
is_pick Open = false

-- some node is open
abbrev pub HasOpen : {B R : Type 0} → List (Node B R) → Type 0
HasOpen ns = (i : ℕ) × (slice_get ns i ≡ Some Open)

-- no Close or Fork node comes after an Open one
abbrev pub IsGapless : {B R : Type 0} → List (Node B R) → Type 0
IsGapless {B} {R} ns =
    (i j : ℕ) (n : Node B R) → i < j → slice_get ns i ≡ Some Open → slice_get ns j ≡ Some n
    → is_pick n ≡ false

-- the node at place i is open, and those before it are Close and Fork nodes
abbrev pub IsFirstOpen : {B R : Type 0} → List (Node B R) → ℕ → Type 0
IsFirstOpen {B} {R} ns i =
    (slice_get ns i ≡ Some Open)
    × ((j : ℕ) (n : Node B R) → j < i → slice_get ns j ≡ Some n → is_pick n ≡ true)
