use Rattle.std.proofs.Common.{◌≡◌, ◌-◌, length, take}
use Rattle.lat_base.specs.Shape.{target_count}
use Rattle.cert_fields.specs.Reading.{many_at}
use Rattle.cert_fields.proofs.Loop.{with_front}
use Rattle.cert_fields.specs.Rows.{row_at, rows_at}
use Rattle.cert_fields.proofs.row_reader.rows_of.Given as goal

abbrev pub invariant-loop-j : goal.invariant-loop-j
invariant-loop-j l = record {
  targets : l.deck.targets ≡ target_count l.shape;
  count : length l.deck.ballots ≡ l.k;
  left : with_front (take l.j l.deck.ballots)
      (many_at (row_at (target_count l.shape)) (l.k - l.j) l.rest)
      ≡ rows_at (target_count l.shape) l.k l.bytes;
}
