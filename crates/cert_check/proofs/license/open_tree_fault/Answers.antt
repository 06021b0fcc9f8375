use Rattle.std.proofs.Common.{true}
use Rattle.deck_state.specs.PartialDeck.{empty}
use Rattle.cert_check.proofs.Lowers.{fault_at}
use Rattle.cert_check.proofs.license.open_tree_fault.Goals as goal

pub returns : goal.returns
returns c =
    fault_at true c.in_ok-state.state (empty c.args.shape.now c.args.rules.now c.args.from) c.args.tree.now
    c.in-Fails.node c.in_ok-state.ensures.empty
    (c.in_ok-check_open.ensures.fails c.in-Fails.node (cc (c.in-Fails.is)))
