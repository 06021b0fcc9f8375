use Rattle.std.proofs.Common.{◌≡◌, ◌*◌, ◌≤◌, take}
use Rattle.lat_base.specs.Shape.{target_count}
use Rattle.lat_base.proofs.shape_fault.count_targets.Given as goal

abbrev pub invariant-loop-contest : goal.invariant-loop-contest
invariant-loop-contest l = record {
  sum : l.sum ≡ target_count (take l.contest-index l.contests);
  fits : l.sum ≤ 65535 * l.contest-index;
}
