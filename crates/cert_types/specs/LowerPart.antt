-- A lower part, as contracts see it.
use Rattle.std.specs.Prelude.{ℕ, List}
use Rattle.close_rules.specs.declared.label.Label.{Label}
use Rattle.close_rules.specs.declared.reason.Reason.{Reason}
use Rattle.tree_core.specs.declared.node.Node.{Node}

-- the contests of a part of a style, a number of ballots, and the nodes of a tree in preorder
pub record LowerPart : Type 0 where
  pub contests : List ℕ
  pub size : ℕ
  pub tree : List (Node Label Reason)
