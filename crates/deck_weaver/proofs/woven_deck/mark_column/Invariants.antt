use Rattle.std.proofs.Common.{◌≡◌, length}
use Rattle.deck_weaver.proofs.woven_deck.mark_column.Given as goal

abbrev pub invariant-loop-j : goal.invariant-loop-j
invariant-loop-j l =
    (l.deck.targets ≡ l.fn.deck.targets) × (length l.deck.ballots ≡ length l.fn.deck.ballots)
