use Rattle.std.proofs.Common.{◌≡◌, map}
use Rattle.std.specs.List.{range_with_len}
use Rattle.deck_state.specs.Tally.{level_alike}
use Rattle.deck_state.proofs.levels.levels_alike.Given as goal

abbrev pub invariant-loop-i : goal.invariant-loop-i
invariant-loop-i l = l.levels.items ≡ map (level_alike l.shape l.row l.k) (range_with_len 0 l.i)
