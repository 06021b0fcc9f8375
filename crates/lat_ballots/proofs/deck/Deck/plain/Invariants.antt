use Rattle.lat_base.specs.Shape.{target_count}
use Rattle.lat_ballots.proofs.PlainDeck.{AreBuilt}
use Rattle.lat_ballots.proofs.deck.Deck.plain.Given as goal

abbrev pub invariant-loop-t : goal.invariant-loop-t
invariant-loop-t l = AreBuilt (target_count l.shape) l.rules l.t l.rows.items
