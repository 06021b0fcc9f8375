use Rattle.std.proofs.Common.{◌≡◌, ◌++◌, ◌-◌}
use Rattle.std.specs.List.{range_with_len}
use Rattle.lat_base.specs.Shape.{first_target}
use Rattle.projection.proofs.restriction.push_targets.Given as goal

abbrev pub invariant-loop-t : goal.invariant-loop-t
invariant-loop-t l = l.targets.items ≡ l.fn.targets.items ++ range_with_len (first_target l.shape l.c) (l.t - first_target l.shape l.c)
