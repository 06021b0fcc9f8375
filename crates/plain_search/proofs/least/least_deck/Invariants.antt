use Rattle.lat_base.specs.Goodness.{NoGoodBelow}
use Rattle.plain_search.proofs.least.least_deck.Given as goal

abbrev pub invariant-loop-k : goal.invariant-loop-k
invariant-loop-k l = NoGoodBelow l.shape l.rules l.k
