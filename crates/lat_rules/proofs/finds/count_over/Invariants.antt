use Rattle.std.proofs.Common.{◌≡◌, ◌≤◌, take}
use Rattle.lat_rules.specs.Broken.{over_count}
use Rattle.lat_rules.proofs.finds.count_over.Given as goal

abbrev pub invariant-loop-j : goal.invariant-loop-j
invariant-loop-j l = record {
  count : l.count ≡ over_count l.shape (take l.j l.deck.ballots) l.c;
  small : l.count ≤ l.j;
}
