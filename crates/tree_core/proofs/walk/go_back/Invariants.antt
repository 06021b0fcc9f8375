use Rattle.std.proofs.Common.{List, reverse, vec_len}
use Rattle.tree_core.specs.declared.node.Node.{Node}
use Rattle.tree_core.specs.Walk.{Stands}
use Rattle.tree_core.proofs.walk.go_back.Given as goal

-- the way still leads from the root, with some states to come
abbrev pub invariant-loop-entry : goal.invariant-loop-entry
invariant-loop-entry g l =
    (nodes : List (Node _ _)) (root : _) (to_come : List _) → Stands (g.S.Space.steps l.space) (g.S.Space.is_own l.space) nodes root (reverse l.fn.way.items) l.fn.state to_come
    → (rest : List _) × Stands (g.S.Space.steps l.space) (g.S.Space.is_own l.space) nodes root
    (reverse l.way.items) l.state rest

abbrev pub decreases-loop-entry : goal.decreases-loop-entry
decreases-loop-entry g l = vec_len l.way
