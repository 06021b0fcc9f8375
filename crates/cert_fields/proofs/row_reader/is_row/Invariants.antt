use Rattle.std.proofs.Common.{◌≡◌, ◌<◌, ◌*◌, ℕ, get_or}
use Rattle.lat_ballots.specs.Deck.{ballot_at}
use Rattle.cert_fields.specs.Rows.{byte_text}
use Rattle.cert_fields.proofs.row_reader.is_row.Given as goal

abbrev pub invariant-loop-i : goal.invariant-loop-i
invariant-loop-i l = (k : ℕ) → k < l.i → byte_text (ballot_at l.deck l.j) (8 * k) ≡ get_or l.bytes k 0
