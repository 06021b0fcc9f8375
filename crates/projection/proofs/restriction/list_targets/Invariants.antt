use Rattle.std.proofs.Common.{◌≡◌, take}
use Rattle.std.specs.List.{flat_map}
use Rattle.readings.specs.Structural.{targets_of}
use Rattle.projection.proofs.restriction.list_targets.Given as goal

abbrev pub invariant-loop-c : goal.invariant-loop-c
invariant-loop-c l = l.targets.items ≡ flat_map (targets_of l.shape) (take l.c-index l.contests)
