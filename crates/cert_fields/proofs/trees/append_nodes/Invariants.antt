use Rattle.std.proofs.Common.{◌≡◌, ◌++◌, take, All}
use Rattle.cert_fields.specs.Trees.{IsNode, tree_text}
use Rattle.cert_fields.proofs.trees.append_nodes.Given as goal

abbrev pub invariant-loop-node : goal.invariant-loop-node
invariant-loop-node g l = record {
  text : l.out.items ≡ l.fn.out.items
      ++ tree_text g.B.Spelt.text g.R.Spelt.text (take l.node-index l.nodes);
  spelled : All (IsNode g.B.Spelt.fits g.R.Spelt.fits) (take l.node-index l.nodes);
}
