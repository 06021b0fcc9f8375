use Rattle.std.proofs.Common.{sym, ◌∙◌}
use Rattle.symmetry.proofs.CanonicalDecks.{canonical_of, earlier_of}
use Rattle.symmetry.proofs.canonical_order.is_canonical.Goals as goal
use Rattle.symmetry.proofs.canonical_order.is_canonical.Goals.{then-are_falling, else-are_falling}

pub returns-then-rise_within : goal.returns-then-rise_within
returns-then-rise_within c = elim c.if-are_falling.branch [
  | then-are_falling w ↦ (
    λ e. canonical_of c.args.shape.now c.args.deck.now.ballots (c.are_falling.ensures.0 w.if-are_falling.true) (w.rise_within.ensures.0 (sym w.value-is ∙ c.if-rise_within.true)) (c.are_earlier.ensures.0 e),
    λ is. c.are_earlier.ensures.1 (earlier_of c.args.shape.now c.args.deck.now.ballots is),
  )
  | else-are_falling w ↦ let e = c.if-rise_within.true in let f = w.value-is in absurd (cc)
]
