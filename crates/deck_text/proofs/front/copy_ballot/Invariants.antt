use Rattle.std.proofs.Common.{◌≡◌, ◌++◌, take, drop, slice_set}
use Rattle.lat_ballots.specs.Deck.{ballot_at}
use Rattle.deck_text.proofs.front.copy_ballot.Given as goal

-- the marks below t are copied
abbrev pub invariant-loop-t : goal.invariant-loop-t
invariant-loop-t l =
    l.deck ≡ record l.fn.deck { ballots = slice_set l.fn.deck.ballots l.j (take l.t (ballot_at l.whole l.j) ++ drop l.t (ballot_at l.fn.deck l.j)) }
