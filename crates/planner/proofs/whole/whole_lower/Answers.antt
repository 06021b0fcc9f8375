use Rattle.std.proofs.Common.{refl}
use Rattle.planner.proofs.LowerParts.{whole_part}
use Rattle.planner.proofs.whole.whole_lower.Goals as goal

pub returns : goal.returns
returns c = λ rules closed. whole_part c.args.shape.now rules c.args.k (record { contests = c.in_ok-contests.contests.items; size = c.args.k; tree = c.args.tree }) c.contests-contests.ensures.shape c.requires c.in_ok-contests.ensures refl closed
