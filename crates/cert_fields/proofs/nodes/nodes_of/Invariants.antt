use Rattle.std.proofs.Common.{◌≡◌, ◌≤◌, ◌+◌, ◌*◌, ℕ, length}
use Rattle.cert_fields.proofs.Loop.{with_front}
use Rattle.cert_fields.specs.TreeReading.{node_at, nodes_at, tree_at}
use Rattle.cert_fields.proofs.nodes.nodes_of.Given as goal

abbrev pub invariant-loop-wanted : goal.invariant-loop-wanted
invariant-loop-wanted g l =
    let label = g.B.Spelt.read_at in
    let reason = g.R.Spelt.read_at in
    record {
      left : (fuel : ℕ) × (length l.rest ≤ fuel)
          × (with_front l.nodes.items (nodes_at (node_at label reason) fuel l.wanted l.rest)
          ≡ tree_at label reason l.bytes);
      bound : l.wanted ≤ 1 + 65535 * length l.nodes.items;
    }

abbrev pub decreases-loop-wanted : goal.decreases-loop-wanted
decreases-loop-wanted g l = length l.rest
