use Rattle.std.proofs.Common.{◌≡◌, ◌+◌, ◌-◌, map}
use Rattle.std.specs.Cmp.Lexicographic.{slice_cmp}
use Rattle.std.specs.List.{range_with_len}
use Rattle.std.specs.Ordering.{nat_cmp}
use Rattle.deck_state.specs.Votes.{lo}
use Rattle.close_rules.specs.Fixed.{lows}
use Rattle.close_rules.proofs.fixed.compare_lows.Given as goal

-- the least totals from here on compare as all do
abbrev pub invariant-loop-i : goal.invariant-loop-i
invariant-loop-i l =
    slice_cmp nat_cmp (map (lo l.state) (range_with_len (l.here + l.i) (l.targets - l.i))) (map (lo l.state) (range_with_len (l.there + l.i) (l.targets - l.i))) ≡ slice_cmp nat_cmp (lows l.state l.c) (lows l.state l.d)
