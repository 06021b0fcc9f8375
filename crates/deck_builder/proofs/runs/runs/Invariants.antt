use Rattle.std.proofs.Common.{◌≡◌}
use Rattle.lat_base.specs.Shape.{first_target}
use Rattle.deck_builder.specs.Pattern.{pattern}
use Rattle.deck_builder.specs.Runs.{runs_of}
use Rattle.deck_builder.proofs.runs.runs.Given as goal

abbrev pub invariant-loop-c : goal.invariant-loop-c
invariant-loop-c l = l.runs.items ≡ runs_of (pattern l.shape l.rules l.k l.turn) (first_target l.shape l.c)
