use Rattle.std.proofs.Common.{◌≡◌, ◌∷◌, flat_map, vec_len}
use Rattle.std.specs.List.{AllByRecursion}
use Rattle.tree_core.specs.declared.node.Node.TheVariants.{Fork}
use Rattle.tree_core.specs.Reading.{IsTree}
use Rattle.tree_core.proofs.tree.Tree.fork.Given as goal

-- the nodes so far are the Fork and those of the kids so far, each of which lists one tree
abbrev pub invariant-loop-kid : goal.invariant-loop-kid
invariant-loop-kid g l = record {
  nodes : l.nodes.items ≡ Fork l.fn.label (vec_len l.fn.kids) ∷ flat_map (λ kid. kid) l.yielded;
  trees : AllByRecursion IsTree l.yielded;
}
