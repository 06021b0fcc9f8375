use Rattle.std.proofs.Common.{◌≡◌}
use Rattle.state_rows.proofs.source_walk.+walk.Given as goal

abbrev pub decreases-walk : goal.decreases-walk
decreases-walk l = l.levels

-- the state is the one with which the walk began
abbrev pub invariant-loop-kid : goal.invariant-loop-kid
invariant-loop-kid l = l.state ≡ l.fn.state
