use Rattle.std.proofs.Common.{◌≡◌, ◌++◌, ◌*◌, map}
use Rattle.std.specs.List.{range_with_len}
use Rattle.lat_ballots.specs.Deck.{ballot_at}
use Rattle.cert_fields.specs.Rows.{byte_text}
use Rattle.cert_fields.proofs.row_writer.put_row.Given as goal

abbrev pub invariant-loop-i : goal.invariant-loop-i
invariant-loop-i l = l.out.items ≡ l.fn.out.items ++ map (λ k. byte_text (ballot_at l.deck l.j) (8 * k)) (range_with_len 0 l.i)
