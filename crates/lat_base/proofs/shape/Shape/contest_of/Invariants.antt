use Rattle.std.proofs.Common.{◌≡◌, ◌+◌, ◌<◌, drop}
use Rattle.lat_base.specs.Shape.{target_count, first_target, contest_of}
use Rattle.lat_base.proofs.shape.Shape.contest_of.Given as goal

abbrev pub invariant-loop-i : goal.invariant-loop-i
invariant-loop-i l = record {
  before : l.i + contest_of (drop l.i l.contest-items) l.rest ≡ contest_of l.self l.t;
  within : l.rest < target_count (drop l.i l.contest-items);
  place : first_target l.contest-items l.i + l.rest ≡ l.t;
}
