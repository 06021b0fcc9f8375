use Rattle.std.proofs.Common.{◌≡◌, drop}
use Rattle.std.specs.Ordering.{bool_cmp}
use Rattle.std.specs.Cmp.Lexicographic.{slice_cmp}
use Rattle.lat_ballots.specs.Deck.{ballot_at}
use Rattle.symmetry.proofs.canonical_order.is_smaller.Given as goal

-- the ballots compare as they do from here on
abbrev pub invariant-loop-t : goal.invariant-loop-t
invariant-loop-t l = slice_cmp bool_cmp (drop l.t (ballot_at l.deck l.j)) (drop l.t (ballot_at l.deck l.i)) ≡ slice_cmp bool_cmp (ballot_at l.deck l.j) (ballot_at l.deck l.i)
