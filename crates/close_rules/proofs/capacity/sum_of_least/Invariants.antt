use Rattle.std.proofs.Common.{◌≡◌, ◌≤◌, ◌+◌, ◌-◌, ◌*◌, map}
use Rattle.std.specs.List.{range_with_len, sum}
use Rattle.deck_state.specs.Votes.{lo}
use Rattle.close_rules.specs.Totals.{least_rising, least_totals}
use Rattle.close_rules.proofs.capacity.sum_of_least.Given as goal

-- the sum so far and that of the least totals from here on are all of it
abbrev pub invariant-loop-i : goal.invariant-loop-i
invariant-loop-i l = record {
  all : l.sum + sum (least_rising l.from
      (map (lo l.state) (range_with_len (l.first + l.i) (l.targets - l.i))))
      ≡ sum (least_totals l.state l.c);
  low : l.from ≤ 1024 + l.i + 1;
  small : l.sum ≤ l.i * 2048;
}
