use Rattle.std.proofs.Common.{◌≡◌, ◌≤◌, ◌*◌}
use Rattle.std.specs.List.{range_with_len, sum}
use Rattle.close_rules.proofs.pigeon.least_sum.Given as goal

abbrev pub invariant-loop-i : goal.invariant-loop-i
invariant-loop-i l = record {
  sum : l.sum ≡ sum (range_with_len l.from l.i);
  small : l.sum ≤ l.i * 128;
}
