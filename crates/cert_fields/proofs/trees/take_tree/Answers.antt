use Rattle.std.proofs.Common.{ℕ, List, Vec, Global}
use Rattle.std.specs.Borrow.{Bor}
use Rattle.tree_core.specs.declared.node.Node.{Node}
use Rattle.cert_fields.proofs.Exact.{begins, begins_err, no_longer}
use Rattle.cert_fields.specs.Trees.{IsTreeOf, tree_text}
use Rattle.cert_fields.specs.TreeReading.{tree_at}
use Rattle.cert_fields.proofs.TreeBytes.{tree_exact}
use Rattle.cert_fields.proofs.trees.take_tree.Goals as goal

pub from_nodes-requires : goal.from_nodes-requires
from_nodes-requires g c =
    ((tree_exact g.B.Spelt.read_at g.B.Spelt.fits g.B.Spelt.text g.R.Spelt.read_at g.R.Spelt.fits g.R.Spelt.text c.exact.ensures c.exact-2.ensures).takes c.args.bytes.now c.in-Ok.nodes.items c.in-Ok.rest.now c.in-Ok.ensures).0.tree

pub overflow_sub-result : goal.overflow_sub-result
overflow_sub-result g c =
    no_longer (tree_exact g.B.Spelt.read_at g.B.Spelt.fits g.B.Spelt.text g.R.Spelt.read_at g.R.Spelt.fits g.R.Spelt.text c.exact.ensures c.exact-2.ensures) c.args.bytes.now c.in-Ok.nodes.items c.in-Ok.rest.now c.in-Ok.ensures

pub returns-in-Ok : goal.returns-in-Ok
returns-in-Ok g c =
    rw c.from_nodes.ensures (begins (tree_exact g.B.Spelt.read_at g.B.Spelt.fits g.B.Spelt.text g.R.Spelt.read_at g.R.Spelt.fits g.R.Spelt.text c.exact.ensures c.exact-2.ensures) c.args.bytes.now c.in-Ok.nodes.items c.in-Ok.rest.now c.in-Ok.ensures)

pub returns-in-Err : goal.returns-in-Err
returns-in-Err g c =
    begins_err (λ (x : Vec (Node g.row.B.Denot g.row.R.Denot) Global × Bor (List ℕ)). (x.0.items, x.1.now)) (tree_at g.B.Spelt.read_at g.R.Spelt.read_at) (IsTreeOf g.B.Spelt.fits g.R.Spelt.fits) (tree_text g.B.Spelt.text g.R.Spelt.text)
    (tree_exact g.B.Spelt.read_at g.B.Spelt.fits g.B.Spelt.text g.R.Spelt.read_at g.R.Spelt.fits g.R.Spelt.text c.exact.ensures c.exact-2.ensures) c.args.bytes.now c.in-Err.fault c.in-Err.ensures
