use Rattle.lat_base.specs.Shape.{contest_at}
use Rattle.lat_base.specs.Tally.{own_total}
use Rattle.symmetry.specs.Order.{IsLeast, IsNotGreater}
use Rattle.symmetry.proofs.canonical_order.is_least.Given as goal

abbrev pub invariant-loop-d : goal.invariant-loop-d
invariant-loop-d l = IsLeast (contest_at l.shape) (IsNotGreater l.shape (own_total l.shape l.deck.ballots)) l.c l.d
