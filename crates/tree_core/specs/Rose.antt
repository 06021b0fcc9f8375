-- A search tree, and the list of its nodes in preorder.
use Rattle.std.specs.Prelude.{ℕ, suc, List, [], ◌∷◌, ◌++◌}
use Rattle.tree_core.specs.declared.node.Node.{Node}
use Rattle.tree_core.specs.declared.node.Node.TheVariants.{Close, Fork, Open}

mutual
  -- a tree: closed by a reason, forked on a label into trees, or open
  pub data Rose (B R : Type 0) : Type 0 where
    Closed : R → Rose B R
    Forked : B → Roses B R → Rose B R
    Opened : Rose B R

  -- a list of trees
  pub data Roses (B R : Type 0) : Type 0 where
    none : Roses B R
    more : Rose B R → Roses B R → Roses B R

-- how many trees a list of them has
abbrev pub count : {B R : Type 0} → Roses B R → ℕ
count none = 0
count (more t ts) = suc (count ts)

abbrev mutual
  -- the nodes of a tree in preorder: its own node, then those of its kids in their order
  pub preorder : {B R : Type 0} → Rose B R → List (Node B R)
  preorder (Closed r) = Close r ∷ []
  preorder (Forked l ts) = Fork l (count ts) ∷ preorder_all ts
  preorder Opened = Open ∷ []

  -- the nodes of several trees, tree by tree
  pub preorder_all : {B R : Type 0} → Roses B R → List (Node B R)
  preorder_all none = []
  preorder_all (more t ts) = preorder t ++ preorder_all ts
