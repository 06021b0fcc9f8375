use Rattle.std.proofs.Common.{◌≡◌, ◌-◌, [], length}
use Rattle.cert_fields.specs.Head.{contests_at}
use Rattle.cert_fields.proofs.head_reader.contests_of.Given as goal

abbrev pub invariant-loop : goal.invariant-loop
invariant-loop l = record {
  left : contests_at (l.count - l.counter) l.names.contests l.contests.items l.rest
      ≡ contests_at l.count [] [] l.bytes;
  style : l.names.style ≡ l.fn.style;
  count : length l.contests.items ≡ l.counter;
}
