use Rattle.lat_base.specs.Tally.{own_total}
use Rattle.symmetry.proofs.CanonicalDecks.{rise_more}
use Rattle.symmetry.proofs.canonical_order.rise_within.Goals as goal

pub loop-t-preserved : goal.loop-t-preserved
loop-t-preserved c = rise_more c.args.shape.now (own_total c.args.shape.now c.args.deck.now.ballots) c.loop-t.t c.loop-t.invariant (λ h. let is = c.falls.ensures.1 h in let not = c.if-falls.false in absurd (cc))
