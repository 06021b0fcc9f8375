use Rattle.std.proofs.Common.{◌≤◌}
use Rattle.adversary.proofs.exchange.count_overvoted.Given as goal

abbrev pub invariant-loop-j : goal.invariant-loop-j
invariant-loop-j l = l.overvoted ≤ l.j
