use Rattle.std.proofs.Common.{◌≡◌, length}
use Rattle.adversary.proofs.columns.count_columns.Given as goal

abbrev pub invariant-loop-j : goal.invariant-loop-j
invariant-loop-j l = length l.columns.items ≡ l.deck.targets
