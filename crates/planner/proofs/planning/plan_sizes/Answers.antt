use Rattle.std.proofs.Common.{◌≡◌, ◌+◌, ◌≤◌, ℕ, Option, Some, subst, arith}
use Rattle.cert_types.specs.LowerPart.{LowerPart}
use Rattle.planner.specs.Lower.{IsLowerFor}
use Rattle.planner.proofs.TreeBounds.{not_ample}
use Rattle.planner.proofs.LowerParts.{lower_for_leaves, least_there, none_left}
use Rattle.planner.proofs.planning.plan_sizes.Goals as goal

pub returns-in-Good-clause-answer : goal.returns-in-Good-clause-answer
returns-in-Good-clause-answer c =
    let few : c.loop-k.k ≤ c.args.max = omega (arith, c.loop-k-test.true) in
    least_there c.args.shape.now c.args.rules.now c.args.max c.loop-k.k c.in-Good.proved c.loop-k.below c.contests-contests.ensures.shape few (rw c.in-Good.is at c.in_ok-proved.ensures) c.loop-k.invariant.lower_for

pub find_best-requires-clause-none : goal.find_best-requires-clause-none
find_best-requires-clause-none c = lower_for_leaves c.args.shape.now c.args.rules.now c.loop-k.k c.loop-k.below c.contests-contests.ensures.shape c.loop-k.invariant.lower_for

pub returns-in-Spent-clause-answer : goal.returns-in-Spent-clause-answer
returns-in-Spent-clause-answer c = record {
  within = omega (arith, c.loop-k-test.true);
  none = lower_for_leaves c.args.shape.now c.args.rules.now c.loop-k.k c.loop-k.below c.contests-contests.ensures.shape c.loop-k.invariant.lower_for;
  lower_for = c.loop-k.invariant.lower_for;
  is_best = c.in_ok-best-in-Spent.ensures;
  is_license = (rw c.in-Spent.is at c.in_ok-proved.ensures).0.is_license;
}

pub returns-clause-answer : goal.returns-clause-answer
returns-clause-answer c =
    let end : c.loop-k.k ≡ c.args.max + 1 = omega (arith, c.loop-k-test.false, c.loop-k.auto.k-end) in
    let below : IsLowerFor c.args.shape.now c.args.rules.now c.loop-k.k (Some c.in-Some.lower) = subst (λ (lower : Option LowerPart). IsLowerFor c.args.shape.now c.args.rules.now c.loop-k.k lower) c.in-Some.is c.loop-k.invariant.lower_for in
    none_left c.args.shape.now c.args.rules.now c.args.max c.in-Some.lower c.contests-contests.ensures.shape (subst (λ (k : ℕ). IsLowerFor c.args.shape.now c.args.rules.now k (Some c.in-Some.lower)) end below)
    (omega (arith, end, c.loop-k.invariant.plain))

pub returns-in-Spent-clause-ample : goal.returns-in-Spent-clause-ample
returns-in-Spent-clause-ample c = λ ample.
    let few : c.loop-k.k ≤ c.args.max = omega (arith, c.loop-k-test.true) in
    not_ample c.args.shape.now c.loop-k.k c.args.max c.args.budget c.in-Spent.license few (rw c.in-Spent.is at c.in_ok-proved.ensures).0.reach ample
