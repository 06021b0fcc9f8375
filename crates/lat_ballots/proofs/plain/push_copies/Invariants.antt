use Rattle.std.proofs.Common.{◌≡◌, ◌++◌, replicate}
use Rattle.lat_ballots.proofs.plain.push_copies.Given as goal

abbrev pub invariant-loop : goal.invariant-loop
invariant-loop l = l.rows.items ≡ l.fn.rows.items ++ replicate l.counter l.row
