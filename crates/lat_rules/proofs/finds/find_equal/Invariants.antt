use Rattle.std.proofs.Common.{◌≡◌, ◌-◌}
use Rattle.std.specs.List.{range_with_len}
use Rattle.lat_base.specs.Shape.{target_count}
use Rattle.lat_rules.specs.Broken.{first_broken, broken_equal}
use Rattle.lat_rules.proofs.finds.find_equal.Given as goal

-- what is broken first from here on is what is broken first
abbrev pub invariant-loop-t : goal.invariant-loop-t
invariant-loop-t l =
    first_broken (broken_equal l.shape l.deck.ballots) (range_with_len l.t (target_count l.shape - l.t)) ≡ first_broken (broken_equal l.shape l.deck.ballots) (range_with_len 0 (target_count l.shape))
