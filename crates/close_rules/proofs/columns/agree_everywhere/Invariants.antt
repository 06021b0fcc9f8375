use Rattle.std.proofs.Common.{◌≡◌, drop}
use Rattle.std.specs.List.{list_all}
use Rattle.close_rules.specs.Columns.{has_same}
use Rattle.close_rules.proofs.columns.agree_everywhere.Given as goal

abbrev pub invariant-loop-j : goal.invariant-loop-j
invariant-loop-j l = list_all (has_same l.t l.u) (drop l.j l.state.marks) ≡ list_all (has_same l.t l.u) l.state.marks
