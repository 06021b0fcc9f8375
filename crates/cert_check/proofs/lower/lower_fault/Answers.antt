use Rattle.std.proofs.Common.{◌≡◌, ap}
use Rattle.cert_types.specs.LowerPart.{LowerPart}
use Rattle.cert_check.proofs.Lowers.{lower_fault_there}
use Rattle.cert_check.proofs.lower.lower_fault.Goals as goal

pub returns : goal.returns
returns c =
    let size : c.lower.inside.size ≡ c.args.lower.now.size = ap (λ (l : LowerPart). l.size) c.lower.view_is in
    let tree : c.lower.inside.tree ≡ c.args.lower.now.tree = ap (λ (l : LowerPart). l.tree) c.lower.view_is in
    lower_fault_there c.args.shape.now c.in_ok-part_shape.part_shape c.args.rules.now c.args.lower.now
    c.in_ok-state.state c.lower.inside.size c.lower.inside.tree c.in-Fails.node size tree
    c.in_ok-part_shape.ensures c.in_ok-state.ensures.empty
    (c.in_ok-check_tree.ensures.fails c.in-Fails.node (cc (c.in-Fails.is)))
