use Rattle.std.proofs.Common.{subst, ◌≡◌, ◌∙◌, ◌++◌, ◌∷◌, [], ap, sym, ℕ, List, take, get_or}
use Rattle.std.proofs.lemmas.List.{take_more, flat_map_more}
use Rattle.std.proofs.lemmas.List.Elements.{All-more}
use Rattle.cert_fields.proofs.Loop.{kept_more}
use Rattle.tree_core.specs.declared.node.Node.{Node}
use Rattle.cert_fields.specs.Trees.{node_text, tree_text, IsNode}
use Rattle.cert_fields.proofs.trees.append_nodes.Goals as goal

pub returns-in_err-append_node-clause-kept : goal.returns-in_err-append_node-clause-kept
returns-in_err-append_node-clause-kept g c =
    kept_more c.args.out.now.items (tree_text g.B.Spelt.text g.R.Spelt.text (take c.loop-node.node-index c.args.nodes.now)) c.loop-node.out.items c.append_node.new.out.items c.loop-node.invariant.text c.append_node.ensures.kept

pub loop-node-preserved : goal.loop-node-preserved
loop-node-preserved g c =
    let text = node_text g.B.Spelt.text g.R.Spelt.text in
    let nodes = c.args.nodes.now in
    let i = c.loop-node.node-index in
    let item : c.node-item.result ≡ get_or nodes i c.node-item.result = c.node-item.is in
    record {
      text = c.in_ok-append_node.ensures.ok ∙ ap (λ (r : List ℕ). r ++ text c.node-item.result) c.loop-node.invariant.text
          ∙ flat_map_more text c.args.out.now.items (take i nodes) c.node-item.result
          ∙ ap (λ (n : Node g.row.B.Denot g.row.R.Denot). c.args.out.now.items ++ tree_text g.B.Spelt.text g.R.Spelt.text (take i nodes ++ n ∷ [])) item
          ∙ ap (λ (ns : List (Node g.row.B.Denot g.row.R.Denot)). c.args.out.now.items ++ tree_text g.B.Spelt.text g.R.Spelt.text ns) (sym (take_more nodes i c.node-item.result c.loop-node-test.true));
      spelled = All-more (IsNode g.B.Spelt.fits g.R.Spelt.fits) nodes i c.node-item.result c.loop-node-test.true c.loop-node.invariant.spelled (subst (IsNode g.B.Spelt.fits g.R.Spelt.fits) item c.in_ok-append_node.ensures.spelled);
    }
