use Rattle.std.proofs.Common.{◌≡◌, take}
use Rattle.symmetry.specs.Counted.{targets_in}
use Rattle.symmetry.proofs.counted.list_targets.Given as goal

abbrev pub invariant-loop-counted : goal.invariant-loop-counted
invariant-loop-counted l = l.targets.items ≡ targets_in (take l.counted-index l.list)
