use Rattle.std.proofs.Common.{◌≡◌, ◌≤◌, count_by, take}
use Rattle.lat_base.specs.Tally.{reading, votes_for}
use Rattle.lat_tabulate.proofs.read.total_read.Given as goal

abbrev pub invariant-loop-j : goal.invariant-loop-j
invariant-loop-j l = record {
  count : l.votes ≡ count_by (λ ballot. votes_for l.shape (reading ballot l.sources) l.u)
      (take l.j l.deck.ballots);
  small : l.votes ≤ l.j;
}
