use Rattle.std.proofs.Common.{◌≡◌, length}
use Rattle.deck_weaver.proofs.woven_deck.mark_contests.Given as goal

abbrev pub invariant-loop-marks : goal.invariant-loop-marks
invariant-loop-marks l =
    (l.deck.targets ≡ l.fn.deck.targets) × (length l.deck.ballots ≡ length l.fn.deck.ballots)

abbrev pub invariant-loop-column : goal.invariant-loop-column
invariant-loop-column l =
    (l.deck.targets ≡ l.fn.deck.targets) × (length l.deck.ballots ≡ length l.fn.deck.ballots)
