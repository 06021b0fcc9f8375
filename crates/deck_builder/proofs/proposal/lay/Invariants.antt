use Rattle.std.proofs.Common.{◌≡◌, false, replicate}
use Rattle.lat_base.specs.Shape.{target_count}
use Rattle.deck_builder.specs.Pattern.{pattern, pattern_deck}
use Rattle.deck_builder.proofs.Filled.{filled}
use Rattle.deck_builder.proofs.proposal.lay.Given as goal

abbrev pub invariant-loop-j : goal.invariant-loop-j
invariant-loop-j l =
    let whole = pattern_deck (pattern l.shape l.rules l.k l.turn) in
    l.deck ≡ record whole { ballots = filled l.j whole.ballots (replicate l.k (replicate (target_count l.shape) false)) }
