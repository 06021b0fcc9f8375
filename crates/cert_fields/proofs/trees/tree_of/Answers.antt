use Rattle.cert_fields.proofs.TreeBytes.{tree_exact}
use Rattle.cert_fields.proofs.trees.tree_of.Goals as goal

pub from_nodes-requires : goal.from_nodes-requires
from_nodes-requires g c =
    ((tree_exact g.B.Spelt.read_at g.B.Spelt.fits g.B.Spelt.text g.R.Spelt.read_at g.R.Spelt.fits g.R.Spelt.text c.exact.ensures c.exact-2.ensures).takes c.args.bytes.now c.in-Ok.nodes.items c.in-Ok.rest.now c.in-Ok.ensures).0.tree
