use Rattle.std.proofs.Common.{[], ◌∙◌, arith}
use Rattle.deck_text.proofs.DraftFacts.{mark_copied}
use Rattle.deck_text.proofs.front.copy_ballot.Goals as goal

pub loop-t-preserved : goal.loop-t-preserved
loop-t-preserved c =
    let from = c.targets-t-end.ensures.deck.fits c.args.j [] c.requires.whole in
    let to = c.ballots-ballots.ensures.deck.fits c.args.j [] c.requires.ballot in
    c.set.ensures
    ∙ mark_copied c.args.deck.now c.args.whole.now c.loop-t.deck c.args.j c.loop-t.t c.is_marked.result c.loop-t.invariant c.requires.ballot
    (omega (arith, from)) (omega (arith, to)) c.is_marked.ensures
