use Rattle.std.proofs.Common.{◌≡◌, drop}
use Rattle.std.specs.Ordering.{nat_cmp}
use Rattle.std.specs.Cmp.Lexicographic.{slice_cmp}
use Rattle.lat_base.specs.Tally.{own_total}
use Rattle.symmetry.specs.Order.{totals_of, compare_totals}
use Rattle.symmetry.proofs.canonical_order.is_greater.Given as goal

-- the totals compare as they do from here on
abbrev pub invariant-loop-i : goal.invariant-loop-i
invariant-loop-i l =
    slice_cmp nat_cmp (drop l.i (totals_of l.shape (own_total l.shape l.deck.ballots) l.c)) (drop l.i (totals_of l.shape (own_total l.shape l.deck.ballots) l.d))
    ≡ compare_totals l.shape (own_total l.shape l.deck.ballots) l.c l.d
