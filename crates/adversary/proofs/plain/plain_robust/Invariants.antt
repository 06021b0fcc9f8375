use Rattle.std.proofs.Common.{◌≡◌, map}
use Rattle.std.specs.List.{range_with_len}
use Rattle.tree_core.specs.declared.node.Node.TheVariants.{Fork}
use Rattle.adversary.proofs.plain.plain_robust.Given as goal

abbrev pub invariant-loop-u : goal.invariant-loop-u
invariant-loop-u l = l.nodes.items ≡ map (λ u. Fork u 1) (range_with_len 0 l.u)
