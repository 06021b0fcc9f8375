use Rattle.std.proofs.Common.{below_more, arith}
use Rattle.planner.specs.Tried.{IsTriedPattern}
use Rattle.planner.proofs.patterns.try_patterns.Goals as goal

pub loop-turn-preserved : goal.loop-turn-preserved
loop-turn-preserved c =
    below_more (IsTriedPattern c.args.shape.now c.args.rules.now c.args.k c.args.budget) c.loop-turn.turn c.loop-turn.invariant (c.in_ok-proved.ensures.none (cc))

pub returns-clause-none : goal.returns-clause-none
returns-clause-none c = λ e turn can. c.loop-turn.invariant turn (omega (arith, can.known, c.loop-turn-test.false)) can
