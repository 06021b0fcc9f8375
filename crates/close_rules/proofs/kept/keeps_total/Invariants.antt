use Rattle.std.proofs.Common.{◌≡◌, ◌≤◌, take, count_by, map}
use Rattle.lat_base.specs.Tally.{votes_for, reading}
use Rattle.deck_state.specs.Mark.{is_marked}
use Rattle.close_rules.proofs.kept.keeps_total.Given as goal

abbrev pub invariant-loop-j : goal.invariant-loop-j
invariant-loop-j l = record {
  total : l.total
      ≡ count_by (λ row. votes_for l.state.contests (reading (map is_marked row) l.s) l.u)
      (take l.j l.state.marks);
  few : l.total ≤ l.j;
  own : l.own ≡ count_by (λ row. votes_for l.state.contests (map is_marked row) l.u)
      (take l.j l.state.marks);
  few_own : l.own ≤ l.j;
}
