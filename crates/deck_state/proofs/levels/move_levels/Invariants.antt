use Rattle.deck_state.specs.Tally.{AreRaised}
use Rattle.deck_state.proofs.levels.move_levels.Given as goal

abbrev pub invariant-loop-v : goal.invariant-loop-v
invariant-loop-v l = AreRaised l.limit l.first l.v l.before l.after l.fn.levels.items l.levels.items
