use Rattle.std.proofs.Common.{◌≡◌, ◌≤◌, ◌*◌, take, sum_by}
use Rattle.evade_space.specs.Losses.{over}
use Rattle.evade_space.proofs.counts.lost_of.Given as goal

abbrev pub invariant-loop-known : goal.invariant-loop-known
invariant-loop-known l = record {
  sum : l.lost ≡ sum_by (over l.limit) (take l.known-index l.marks);
  few : l.lost ≤ 65536 * l.known-index;
}
