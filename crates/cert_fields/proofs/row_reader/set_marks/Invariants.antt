use Rattle.std.proofs.Common.{◌≡◌, ◌++◌, take, drop, set}
use Rattle.lat_ballots.specs.Deck.{ballot_at}
use Rattle.cert_fields.specs.Rows.{marks_of}
use Rattle.cert_fields.proofs.row_reader.set_marks.Given as goal

abbrev pub invariant-loop-t : goal.invariant-loop-t
invariant-loop-t l = l.deck ≡ record l.fn.deck { ballots = set l.fn.deck.ballots l.j (take l.t (marks_of l.fn.deck.targets l.bytes) ++ drop l.t (ballot_at l.fn.deck l.j)) }
