use Rattle.std.proofs.Common.{◌≡◌, ◌≤◌, ◌*◌}
use Rattle.lat_ballots.proofs.Common.{common_below}
use Rattle.lat_ballots.proofs.words.count_common.Given as goal

abbrev pub invariant-loop-i : goal.invariant-loop-i
invariant-loop-i l = record {
  count : l.count ≡ common_below l.words l.others (64 * l.i);
  few : l.count ≤ 64 * l.i;
}
