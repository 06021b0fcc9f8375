use Rattle.std.proofs.Common.{◌≡◌, ◌≤◌, ◌*◌}
use Rattle.lat_tabulate.specs.Lost.{votes_below}
use Rattle.lat_tabulate.proofs.losses.count_votes.Given as goal

abbrev pub invariant-loop-u : goal.invariant-loop-u
invariant-loop-u l = record {
  votes : l.votes ≡ votes_below l.shape l.deck.ballots l.u;
  small : l.votes ≤ 1024 * l.u;
}
