use Rattle.std.proofs.Common.{◌≡◌, ◌+◌, ◌-◌, suc, true, ap, ◌∙◌, arith}
use Rattle.std.proofs.lemmas.Bool.Decides.{nat_tests}
use Rattle.lat_base.specs.declared.contest.Contest.{Contest}
use Rattle.lat_base.specs.Shape.{contest_at}
use Rattle.readings.proofs.Places.{nth_within}
use Rattle.close_rules.specs.Evading.{stays}
use Rattle.close_rules.proofs.Along.{passes_here}
use Rattle.close_rules.proofs.evading.is_left.Goals as goal

pub overflow_add-first : goal.overflow_add-first
overflow_add-first c = omega (arith, c.targets-targets.ensures.shape.few_targets, c.first_of-first.ensures.value, nth_within c.args.shape.now c.args.c c.loop-i.i c.requires.contest (omega (arith, c.loop-i-test.true, ap (λ (x : Contest). x.targets) c.contest-i-end.ensures)))

pub overflow_add-first-in-loop-i : goal.overflow_add-first-in-loop-i
overflow_add-first-in-loop-i c = omega (arith, c.targets-targets.ensures.shape.few_targets, c.first_of-first.ensures.value, nth_within c.args.shape.now c.args.c c.loop-i.i c.requires.contest (omega (arith, c.loop-i-test.true, ap (λ (x : Contest). x.targets) c.contest-i-end.ensures)))

pub loop-i-preserved : goal.loop-i-preserved
loop-i-preserved c =
    let n = (contest_at c.args.shape.now c.args.c).targets in
    let t = c.first_of-first.result + c.loop-i.i in
    let targets : c.contest-i-end.result.targets ≡ n = ap (λ (x : Contest). x.targets) c.contest-i-end.ensures in
    let one : n - c.loop-i.i ≡ suc (n - (c.loop-i.i + 1)) = omega (arith, targets, c.loop-i-test.true) in
    let next : c.first_of-first.result + (c.loop-i.i + 1) ≡ t + 1 = omega arith in
    let same : stays c.args.s.now t ≡ true = grind (arith, nat_tests, c.source.ensures, c.if-source-first.false) in
    passes_here (stays c.args.s.now) t (c.first_of-first.result + (c.loop-i.i + 1)) (n - c.loop-i.i) (n - (c.loop-i.i + 1)) one next same ∙ c.loop-i.invariant
