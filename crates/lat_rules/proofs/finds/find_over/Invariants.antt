use Rattle.std.proofs.Common.{◌≡◌, ◌-◌, length}
use Rattle.std.specs.List.{range_with_len}
use Rattle.lat_rules.specs.Broken.{first_broken, broken_over}
use Rattle.lat_rules.proofs.finds.find_over.Given as goal

-- what is broken first from here on is what is broken first
abbrev pub invariant-loop-c : goal.invariant-loop-c
invariant-loop-c l =
    first_broken (broken_over l.shape l.rules l.deck.ballots) (range_with_len l.c (length l.shape - l.c)) ≡ first_broken (broken_over l.shape l.rules l.deck.ballots) (range_with_len 0 (length l.shape))
