use Rattle.std.proofs.Common.{◌≡◌, ◌-◌, length}
use Rattle.cert_fields.specs.Reading.{u16_at, many_at}
use Rattle.cert_fields.proofs.Loop.{with_front}
use Rattle.cert_fields.proofs.lists.numbers_of.Given as goal

abbrev pub invariant-loop : goal.invariant-loop
invariant-loop l = record {
  left : with_front l.numbers.items (many_at u16_at (l.count - l.counter) l.rest)
      ≡ many_at u16_at l.count l.bytes;
  count : length l.numbers.items ≡ l.counter;
}
