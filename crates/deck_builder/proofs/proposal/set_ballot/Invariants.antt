use Rattle.std.proofs.Common.{◌≡◌}
use Rattle.lat_ballots.specs.Deck.{ballot_at}
use Rattle.deck_builder.specs.Pattern.{pattern, pattern_deck}
use Rattle.deck_builder.specs.Runs.{with_ballot}
use Rattle.deck_builder.proofs.Filled.{filled}
use Rattle.deck_builder.proofs.proposal.set_ballot.Given as goal

abbrev pub invariant-loop-t : goal.invariant-loop-t
invariant-loop-t l =
    let whole = pattern_deck (pattern l.shape l.rules l.k l.turn) in
    l.deck ≡ with_ballot l.initial.deck l.j (filled l.t (ballot_at whole l.j) (ballot_at l.initial.deck l.j))
