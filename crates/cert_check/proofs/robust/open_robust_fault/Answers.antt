use Rattle.std.proofs.Common.{true}
use Rattle.cert_check.proofs.RobustTrees.{fault_there}
use Rattle.cert_check.proofs.robust.open_robust_fault.Goals as goal

pub returns : goal.returns
returns c =
    fault_there true c.args.shape.now c.args.deck.now.ballots c.in_ok-space.space c.in_ok-state.state
    c.args.tree.now c.in-Fails.node c.in_ok-space.ensures c.in_ok-state.ensures.start
    (c.in_ok-check_open.ensures.fails c.in-Fails.node (cc (c.in-Fails.is)))
