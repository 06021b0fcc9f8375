use Rattle.std.proofs.Common.{◌≡◌, ◌-◌}
use Rattle.std.specs.List.{range_with_len}
use Rattle.lat_rules.specs.Broken.{first_broken, broken_pair, broken_equal}
use Rattle.lat_rules.proofs.finds.equal_at.Given as goal

-- what is broken first from here on is what is broken first
abbrev pub invariant-loop-u : goal.invariant-loop-u
invariant-loop-u l =
    first_broken (broken_pair l.shape l.deck.ballots l.t) (range_with_len l.u (l.last - l.u)) ≡ broken_equal l.shape l.deck.ballots l.t
