use Rattle.std.proofs.Common.{◌<◌, ℕ}
use Rattle.planner.specs.Tried.{IsTriedPattern}
use Rattle.planner.proofs.patterns.try_patterns.Given as goal

abbrev pub invariant-loop-turn : goal.invariant-loop-turn
invariant-loop-turn l = (turn : ℕ) → turn < l.turn → IsTriedPattern l.shape l.rules l.k l.budget turn
