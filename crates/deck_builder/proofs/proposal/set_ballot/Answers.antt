use Rattle.std.proofs.Common.{arith}
use Rattle.deck_builder.specs.Pattern.{pattern, pattern_deck}
use Rattle.deck_builder.proofs.Filled.{marks_more, marks_all}
use Rattle.deck_builder.proofs.Laying.{can_write}
use Rattle.deck_builder.proofs.proposal.set_ballot.Goals as goal

pub loop-t-preserved : goal.loop-t-preserved
loop-t-preserved c =
    let whole = pattern_deck (pattern c.args.shape.now c.args.rules.now c.args.k c.args.turn) in
    marks_more c.args.deck.now whole c.loop-t.deck c.set.new.self c.args.j c.loop-t.t c.has_mark.result
    (can_write c.args.shape.now c.args.rules.now c.args.k c.args.turn c.args.j c.args.deck.now c.requires.fits c.targets-targets.ensures.deck c.requires.ballot c.requires.ballots c.requires.targets)
    (omega (arith, c.loop-t-test.true, c.targets-t-end.ensures.count, c.requires.targets)) c.loop-t.invariant c.set.ensures c.has_mark.ensures

pub returns : goal.returns
returns c =
    let whole = pattern_deck (pattern c.args.shape.now c.args.rules.now c.args.k c.args.turn) in
    marks_all c.args.deck.now whole c.loop-t.deck c.args.j c.loop-t.t
    (can_write c.args.shape.now c.args.rules.now c.args.k c.args.turn c.args.j c.args.deck.now c.requires.fits c.targets-targets.ensures.deck c.requires.ballot c.requires.ballots c.requires.targets)
    (omega (arith, c.loop-t-test.false, c.loop-t.auto.t-end, c.targets-t-end.ensures.count, c.requires.targets)) c.loop-t.invariant
