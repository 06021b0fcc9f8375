use Rattle.std.proofs.Common.{◌<◌, ℕ}
use Rattle.deck_builder.specs.Pattern.{pattern, FitsContest}
use Rattle.deck_builder.proofs.fitting.can_propose.Given as goal

abbrev pub invariant-loop-c : goal.invariant-loop-c
invariant-loop-c l = (d : ℕ) → d < l.c → FitsContest (pattern l.shape l.rules l.k l.turn) d
