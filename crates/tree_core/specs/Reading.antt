-- The tree that a list of nodes lists.
use Rattle.std.specs.Prelude.{◌≡◌, ℕ, zero, suc, List, [], ◌∷◌}
use Rattle.tree_core.specs.declared.node.Node.{Node}
use Rattle.tree_core.specs.declared.node.Node.TheVariants.{Close, Fork, Open}
use Rattle.tree_core.specs.Rose.{Rose, Closed, Forked, Opened, Roses, none, more, preorder}

-- the first n trees
abbrev pub front : {B R : Type 0} → ℕ → Roses B R → Roses B R
front zero ts = none
front (suc n) none = none
front (suc n) (more t ts) = more t (front n ts)

-- the trees behind the first n
abbrev pub behind : {B R : Type 0} → ℕ → Roses B R → Roses B R
behind zero ts = ts
behind (suc n) none = none
behind (suc n) (more t ts) = behind n ts

-- the trees that a list of nodes lists, read from its end: a Fork takes its kids from the trees
-- behind it
abbrev pub trees_of : {B R : Type 0} → List (Node B R) → Roses B R
trees_of [] = none
trees_of (Close r ∷ ns) = more (Closed r) (trees_of ns)
trees_of (Fork l n ∷ ns) = more (Forked l (front n (trees_of ns))) (behind n (trees_of ns))
trees_of (Open ∷ ns) = more Opened (trees_of ns)

-- the first of several trees; where there is none, an open one
abbrev pub first : {B R : Type 0} → Roses B R → Rose B R
first none = Opened
first (more t ts) = t

-- the tree that a list of nodes lists
abbrev pub tree_of : {B R : Type 0} → List (Node B R) → Rose B R
tree_of ns = first (trees_of ns)

-- the list lists exactly one tree: the tree that is read from it has these nodes and no others
abbrev pub IsTree : {B R : Type 0} → List (Node B R) → Type 0
IsTree ns = preorder (tree_of ns) ≡ ns
