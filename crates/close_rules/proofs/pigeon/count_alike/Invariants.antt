use Rattle.std.proofs.Common.{◌≡◌, ◌≤◌, take, count_by}
use Rattle.lat_base.specs.Shape.{contest_at}
use Rattle.close_rules.specs.Fixed.{has_shape_of}
use Rattle.close_rules.proofs.pigeon.count_alike.Given as goal

abbrev pub invariant-loop-d : goal.invariant-loop-d
invariant-loop-d l = record {
  count : l.alike ≡ count_by (has_shape_of (contest_at l.state.contests l.c))
      (take l.d l.state.contests);
  small : l.alike ≤ l.d;
}
