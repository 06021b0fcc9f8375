use Rattle.std.proofs.Common.{length}
use Rattle.lat_base.specs.Shape.{contest_at}
use Rattle.lat_base.specs.Tally.{own_total}
use Rattle.symmetry.specs.Order.{InOrder, IsNotGreater}
use Rattle.symmetry.proofs.canonical_order.are_earlier.Given as goal

abbrev pub invariant-loop-c : goal.invariant-loop-c
invariant-loop-c l = InOrder (contest_at l.shape) (IsNotGreater l.shape (own_total l.shape l.deck.ballots)) (length l.shape) l.c
