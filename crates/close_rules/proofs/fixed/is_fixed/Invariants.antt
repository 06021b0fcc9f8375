use Rattle.std.proofs.Common.{◌≡◌, ◌+◌, ◌-◌}
use Rattle.std.specs.Prelude.{◌==◌}
use Rattle.std.specs.List.{list_all, range_with_len}
use Rattle.deck_state.specs.Votes.{lo, hi}
use Rattle.close_rules.specs.Fixed.{is_fixed}
use Rattle.close_rules.proofs.fixed.is_fixed.Given as goal

-- the totals are known where those from here on are
abbrev pub invariant-loop-i : goal.invariant-loop-i
invariant-loop-i l = list_all (λ t. lo l.state t == hi l.state t) (range_with_len (l.first + l.i) (l.targets - l.i)) ≡ is_fixed l.state l.c
