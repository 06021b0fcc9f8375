use Rattle.std.proofs.Common.{arith}
use Rattle.adversary.proofs.Attacks.{closed, found, spent}
use Rattle.adversary.proofs.attacking.attack.Goals as goal

pub returns-in-Closed-clause-attack : goal.returns-in-Closed-clause-attack
returns-in-Closed-clause-attack c =
    closed c.args.shape.now c.args.deck.now.ballots c.in_ok-space.space c.in_ok-state.state c.in-Closed.tree c.in_ok-space.ensures c.in_ok-state.ensures.start
    c.lists_a_tree.ensures (c.in_ok-outcome.ensures.closed c.in-Closed.tree (cc)).0 (c.in_ok-outcome.ensures.empty c.in-Closed.tree (cc))

pub returns-in-Found-clause-attack : goal.returns-in-Found-clause-attack
returns-in-Found-clause-attack c =
    let at = c.in_ok-outcome.ensures.found c.in-Found.s (cc) in
    found c.args.shape.now c.args.deck.now.ballots c.in_ok-space.space c.in_ok-state.state c.in-Found.s _ c.in_ok-space.ensures c.in_ok-state.ensures.start at.is_solution at.proved

pub returns-in-Spent-clause-attack : goal.returns-in-Spent-clause-attack
returns-in-Spent-clause-attack c =
    let is = c.in_ok-outcome.ensures.spent c.in-Spent.tree (cc) in
    ((spent c.args.shape.now c.args.deck.now.ballots c.in_ok-space.space c.in_ok-state.state c.args.budget c.in-Spent.tree c.in_ok-space.ensures c.in_ok-state.ensures.start c.in_ok-state.ensures.own is.0).0, is.1)

pub returns-in-Spent-clause-ample : goal.returns-in-Spent-clause-ample
returns-in-Spent-clause-ample c = λ ample.
    let is = c.in_ok-outcome.ensures.spent c.in-Spent.tree (cc) in
    let few = (spent c.args.shape.now c.args.deck.now.ballots c.in_ok-space.space c.in_ok-state.state c.args.budget c.in-Spent.tree c.in_ok-space.ensures c.in_ok-state.ensures.start c.in_ok-state.ensures.own is.0).1 in
    absurd (omega (arith, ample, few))
