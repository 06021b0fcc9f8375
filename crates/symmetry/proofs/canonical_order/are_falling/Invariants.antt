use Rattle.std.proofs.Common.{◌≢◌, ◌<◌, ◌+◌, ℕ, [], get_or}
use Rattle.std.specs.Ordering.{bool_cmp}
use Rattle.std.specs.Cmp.Lexicographic.{slice_cmp}
use Rattle.std.specs.declared.cmp.Ordering.TheVariants.{Less}
use Rattle.symmetry.proofs.canonical_order.are_falling.Given as goal

-- no ballot before this one is smaller than the next
abbrev pub invariant-loop-j : goal.invariant-loop-j
invariant-loop-j l = (k : ℕ) → k + 1 < l.j → slice_cmp bool_cmp (get_or l.deck.ballots k []) (get_or l.deck.ballots (k + 1) []) ≢ Less
