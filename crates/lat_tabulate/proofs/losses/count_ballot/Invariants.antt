use Rattle.std.proofs.Common.{◌≡◌, ◌≤◌, take}
use Rattle.lat_ballots.specs.Deck.{ballot_at}
use Rattle.lat_tabulate.specs.Lost.{marks_of}
use Rattle.lat_tabulate.proofs.losses.count_ballot.Given as goal

abbrev pub invariant-loop-t : goal.invariant-loop-t
invariant-loop-t l = record {
  marks : l.marks ≡ marks_of (take l.t (ballot_at l.deck l.j));
  small : l.marks ≤ l.t;
}
