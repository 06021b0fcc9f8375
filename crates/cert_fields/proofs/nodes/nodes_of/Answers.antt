use Rattle.std.proofs.Common.{◌≡◌, ◌<◌, [], Option, Some, None, ℕ, length, List, Vec, Global, arith, refl, length-append}
use Rattle.std.specs.Borrow.{Bor}
use Rattle.std.proofs.lemmas.Result.{err_from_is_err_and}
use Rattle.tree_core.specs.declared.node.Node.{Node}
use Rattle.cert_fields.proofs.Loop.{with_front}
use Rattle.cert_fields.specs.TreeReading.{node_at, tree_at, nodes_at}
use Rattle.cert_fields.proofs.TreeBytes.{node_shorter, reads_on, reads_fault, reads_all}
use Rattle.cert_fields.proofs.nodes.nodes_of.Goals as goal

pub loop-wanted-init : goal.loop-wanted-init
unfolding tree_at
loop-wanted-init g c = record {
  left = (length c.args.bytes.now, omega arith, rw c.new-nodes.ensures.items (same (nodes_at (node_at g.B.Spelt.read_at g.R.Spelt.read_at) (length c.args.bytes.now) 1 c.args.bytes.now)));
  bound = omega arith;
}
  where
    same : (o : Option (List (Node g.row.B.Denot g.row.R.Denot) × List ℕ)) → with_front [] o ≡ o
    same None = refl
    same (Some x) = refl

pub loop-wanted-smaller : goal.loop-wanted-smaller
loop-wanted-smaller g c =
    node_shorter g.B.Spelt.read_at g.B.Spelt.fits g.B.Spelt.text g.R.Spelt.read_at g.R.Spelt.fits g.R.Spelt.text c.exact.ensures c.exact-2.ensures c.loop-wanted.rest.now c.in_ok-node.node c.in_ok-node.after.now c.in_ok-node.ensures

pub loop-wanted-preserved : goal.loop-wanted-preserved
loop-wanted-preserved g c =
    let label = g.B.Spelt.read_at in
    let reason = g.R.Spelt.read_at in
    let short : length c.in_ok-node.after.now < length c.loop-wanted.rest.now = node_shorter label g.B.Spelt.fits g.B.Spelt.text reason g.R.Spelt.fits g.R.Spelt.text c.exact.ensures c.exact-2.ensures c.loop-wanted.rest.now c.in_ok-node.node c.in_ok-node.after.now c.in_ok-node.ensures in
    let inv = c.loop-wanted.invariant.left in
    record {
      left = rw (c.in_ok-push.ensures.items, c.kids_of.ensures) (reads_on (node_at label reason) c.loop-wanted.nodes.items (tree_at label reason c.args.bytes.now) inv.0 c.loop-wanted.wanted c.loop-wanted.rest.now c.in_ok-node.node c.in_ok-node.after.now c.loop-wanted-test.true c.in_ok-node.ensures inv.1 short inv.2);
      bound = rw c.in_ok-push.ensures.items (omega (arith, length-append {A = Node g.row.B.Denot g.row.R.Denot}));
    }

pub returns : goal.returns
returns g c =
    let inv = c.loop-wanted.invariant.left in
    let zero : c.loop-wanted.wanted ≡ 0 = omega arith in
    reads_all (node_at g.B.Spelt.read_at g.R.Spelt.read_at) c.loop-wanted.nodes.items (tree_at g.B.Spelt.read_at g.R.Spelt.read_at c.args.bytes.now) inv.0 c.loop-wanted.wanted c.loop-wanted.rest.now zero inv.2

pub returns-in_err-node : goal.returns-in_err-node
returns-in_err-node g c =
    let p = err_from_is_err_and c.from_residual.result c.from_residual.ensures.1 in
    let inv = c.loop-wanted.invariant.left in
    rw (p.1, p.2) (reads_fault (node_at g.B.Spelt.read_at g.R.Spelt.read_at) c.loop-wanted.nodes.items (tree_at g.B.Spelt.read_at g.R.Spelt.read_at c.args.bytes.now)
    (λ (x : Node g.row.B.Denot g.row.R.Denot × Bor (List ℕ)). (x.0, x.1.now)) (λ (x : Vec (Node g.row.B.Denot g.row.R.Denot) Global × Bor (List ℕ)). (x.0.items, x.1.now))
    c.in_err-node.field-0.0 inv.0 c.loop-wanted.wanted c.loop-wanted.rest.now c.loop-wanted-test.true c.in_err-node.ensures inv.2)
