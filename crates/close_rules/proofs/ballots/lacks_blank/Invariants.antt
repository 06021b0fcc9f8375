use Rattle.std.proofs.Common.{◌≡◌, ◌≤◌, take, count_by}
use Rattle.close_rules.specs.Ballots.{may_be_blank}
use Rattle.close_rules.proofs.ballots.lacks_blank.Given as goal

abbrev pub invariant-loop-j : goal.invariant-loop-j
invariant-loop-j l = record {
  count : l.blank ≡ count_by may_be_blank (take l.j l.state.marks);
  small : l.blank ≤ l.j;
}
