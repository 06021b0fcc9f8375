use Rattle.std.proofs.Common.{◌≡◌, ◌+◌, ◌-◌, map}
use Rattle.std.specs.List.{range_with_len}
use Rattle.deck_state.specs.Votes.{lo, hi}
use Rattle.close_rules.specs.Totals.{is_above, least_rising, least_totals, highs, most_voting}
use Rattle.close_rules.proofs.totals.is_above.Given as goal

-- some least total is above where one from here on is
abbrev pub invariant-loop-i : goal.invariant-loop-i
invariant-loop-i l =
    is_above l.most (least_rising l.from (map (lo l.state) (range_with_len (l.first + l.i) (l.targets - l.i)))) (map (hi l.state) (range_with_len (l.first + l.i) (l.targets - l.i))) ≡ is_above (most_voting l.state l.c) (least_totals l.state l.c) (highs l.state l.c)
