use Rattle.std.proofs.Common.{◌≡◌, map}
use Rattle.std.specs.List.{range_with_len}
use Rattle.symmetry.specs.Counted.{counted}
use Rattle.symmetry.proofs.counted.count_targets.Given as goal

abbrev pub invariant-loop-target : goal.invariant-loop-target
invariant-loop-target l = l.list.items ≡ map (counted l.shape l.deck.ballots) (range_with_len 0 l.target)
