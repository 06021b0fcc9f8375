use Rattle.std.proofs.Common.{◌≡◌, length}
use Rattle.adversary.proofs.columns.add_marks.Given as goal

abbrev pub invariant-loop-t : goal.invariant-loop-t
invariant-loop-t l = length l.columns ≡ l.deck.targets
