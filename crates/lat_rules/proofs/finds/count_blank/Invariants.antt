use Rattle.std.proofs.Common.{◌≡◌, ◌≤◌, take}
use Rattle.lat_rules.specs.Broken.{blank_count}
use Rattle.lat_rules.proofs.finds.count_blank.Given as goal

abbrev pub invariant-loop-j : goal.invariant-loop-j
invariant-loop-j l = record {
  count : l.count ≡ blank_count (take l.j l.deck.ballots);
  small : l.count ≤ l.j;
}
