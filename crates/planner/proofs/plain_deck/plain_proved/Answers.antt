use Rattle.planner.proofs.PlainGood.{plain_good}
use Rattle.planner.proofs.plain_deck.plain_proved.Goals as goal

pub returns : goal.returns
returns c =
    plain_good c.args.shape.now c.args.rules.now c.in_ok-deck.deck c.in_ok-robust.robust c.in_ok-deck.ensures.plain c.in_ok-robust.ensures.robust c.in_ok-robust.ensures.tree
    (c.plain_is_canonical.ensures.canonical c.args.shape.now c.args.rules.now c.contests-contests.ensures.shape) (c.plain_is_canonical.ensures.obeys c.args.shape.now c.args.rules.now c.contests-contests.ensures.shape)
