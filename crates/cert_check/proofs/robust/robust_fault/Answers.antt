use Rattle.std.proofs.Common.{false}
use Rattle.cert_check.proofs.RobustTrees.{robust_there, fault_there}
use Rattle.cert_check.proofs.robust.robust_fault.Goals as goal

pub returns-in-Holds-clause-robust : goal.returns-in-Holds-clause-robust
returns-in-Holds-clause-robust c = λ e.
    robust_there c.args.shape.now c.args.deck.now.ballots c.in_ok-space.space c.in_ok-state.state
    c.in_ok-space.ensures c.in_ok-state.ensures.start (c.in_ok-check_tree.ensures.empty (cc (c.in-Holds.is)))

pub returns-clause-answer : goal.returns-clause-answer
returns-clause-answer c =
    fault_there false c.args.shape.now c.args.deck.now.ballots c.in_ok-space.space c.in_ok-state.state
    c.args.tree.now c.in-Fails.node c.in_ok-space.ensures c.in_ok-state.ensures.start
    (c.in_ok-check_tree.ensures.fails c.in-Fails.node (cc (c.in-Fails.is)))
