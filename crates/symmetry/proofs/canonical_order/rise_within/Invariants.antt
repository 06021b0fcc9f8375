use Rattle.std.proofs.Common.{◌≡◌, ◌<◌, ◌≤◌, ◌+◌, ℕ}
use Rattle.lat_base.specs.Shape.{contest_of}
use Rattle.lat_base.specs.Tally.{own_total}
use Rattle.symmetry.proofs.canonical_order.rise_within.Given as goal

-- totals don't fall before this target
abbrev pub invariant-loop-t : goal.invariant-loop-t
invariant-loop-t l =
    (k : ℕ) → k < l.t → contest_of l.shape k ≡ contest_of l.shape (k + 1) → own_total l.shape l.deck.ballots k ≤ own_total l.shape l.deck.ballots (k + 1)
