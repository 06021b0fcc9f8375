use Rattle.std.proofs.Common.{◌≡◌, ◌≤◌, ◌*◌, map}
use Rattle.close_rules.specs.Capacity.{most_votes}
use Rattle.close_rules.proofs.Levels.{levels}
use Rattle.close_rules.proofs.capacity.capacity.Given as goal

abbrev pub invariant-loop-votes : goal.invariant-loop-votes
invariant-loop-votes l = record {
  sum : l.sum ≡ levels l.votes l.most (map (most_votes l.state.contests l.c) l.state.marks);
  small : l.sum ≤ l.votes * 1024;
}
