use Rattle.std.proofs.Common.{◌≡◌, ◌-◌}
use Rattle.cert_fields.specs.Reading.{id_at, many_at}
use Rattle.cert_fields.proofs.Loop.{with_front}
use Rattle.cert_fields.proofs.head_reader.ids_of.Given as goal

abbrev pub invariant-loop : goal.invariant-loop
invariant-loop l = with_front l.ids (many_at id_at (l.count - l.counter) l.rest) ≡ many_at id_at l.count l.bytes
