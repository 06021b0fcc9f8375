use Rattle.std.proofs.Common.{◌≡◌, ◌++◌, take}
use Rattle.cert_fields.specs.Rows.{rows_text}
use Rattle.cert_fields.proofs.row_writer.append_rows.Given as goal

abbrev pub invariant-loop-j : goal.invariant-loop-j
invariant-loop-j l = l.out.items ≡ l.fn.out.items ++ rows_text (take l.j l.deck.ballots)
