use Rattle.std.proofs.Common.{◌≤◌}
use Rattle.planner.specs.Answer.{most}
use Rattle.planner.specs.Lower.{IsLowerFor, IsEagerLower}
use Rattle.planner.proofs.planning.plan_sizes.Given as goal

abbrev pub invariant-loop-k : goal.invariant-loop-k
invariant-loop-k l = record {
  lower_for : IsLowerFor l.shape l.rules l.k l.below;
  eager : IsEagerLower l.shape l.rules l.fn.lower → IsEagerLower l.shape l.rules l.below;
  plain : l.k ≤ most l.shape l.rules;
}
