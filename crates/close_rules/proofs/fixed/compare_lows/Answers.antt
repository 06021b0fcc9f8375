use Rattle.std.proofs.Common.{◌≡◌, ◌≢◌, ◌+◌, ◌-◌, suc, List, ap, sym, ◌∙◌, arith}
use Rattle.std.specs.Ordering.{nat_cmp}
use Rattle.std.specs.declared.cmp.Ordering.TheVariants.{Equal}
use Rattle.lat_base.specs.declared.contest.Contest.{Contest}
use Rattle.lat_base.specs.Shape.{contest_at, first_target}
use Rattle.readings.proofs.Places.{nth_within}
use Rattle.deck_state.specs.Votes.{lo}
use Rattle.close_rules.proofs.Along.{equal_here, differs_here, is_equal, is_unequal}
use Rattle.close_rules.proofs.fixed.compare_lows.Goals as goal

pub lo-requires : goal.lo-requires
lo-requires c =
    let contests = c.args.state.now.contests in
    let here : c.first_of-here.result ≡ first_target contests c.args.c = c.first_of-here.ensures.value ∙ ap (λ (x : List Contest). first_target x c.args.c) c.shape.ensures.value in
    let targets : c.contest-targets.result.targets ≡ (contest_at contests c.args.c).targets = ap (λ (x : Contest). x.targets) c.contest-targets.ensures ∙ ap (λ (x : List Contest). (contest_at x c.args.c).targets) c.shape-3.ensures.value in
    omega (arith, here, nth_within contests c.args.c c.loop-i.i c.requires.first (omega (arith, targets, c.loop-i-test.true)))

pub lo-requires-in-loop-i : goal.lo-requires-in-loop-i
lo-requires-in-loop-i c =
    let contests = c.args.state.now.contests in
    let there : c.first_of-there.result ≡ first_target contests c.args.d = c.first_of-there.ensures.value ∙ ap (λ (x : List Contest). first_target x c.args.d) c.shape-2.ensures.value in
    let targets : c.contest-targets.result.targets ≡ (contest_at contests c.args.c).targets = ap (λ (x : Contest). x.targets) c.contest-targets.ensures ∙ ap (λ (x : List Contest). (contest_at x c.args.c).targets) c.shape-3.ensures.value in
    omega (arith, there, nth_within contests c.args.d c.loop-i.i c.requires.second (omega (arith, targets, c.requires.alike, c.loop-i-test.true)))

pub returns-then-ne : goal.returns-then-ne
returns-then-ne c =
    let p = c.args.state.now in
    let t = c.first_of-here.result + c.loop-i.i in
    let u = c.first_of-there.result + c.loop-i.i in
    let n = c.contest-targets.result.targets - c.loop-i.i in
    let one : n ≡ suc (n - 1) = omega (arith, c.loop-i-test.true) in
    let order : c.cmp-order.result ≡ nat_cmp (lo p t) (lo p u) = c.cmp-order.ensures ∙ (λ i. nat_cmp (c.lo.ensures i) (c.lo-in-loop-i.ensures i)) in
    let other : nat_cmp (lo p t) (lo p u) ≢ Equal = λ e. is_unequal c.cmp-order.result (sym c.ne.ensures ∙ c.if-ne.true) (order ∙ e) in
    order ∙ (sym (differs_here (lo p) t u n (n - 1) one other) ∙ c.loop-i.invariant)

pub loop-i-preserved : goal.loop-i-preserved
loop-i-preserved c =
    let p = c.args.state.now in
    let t = c.first_of-here.result + c.loop-i.i in
    let u = c.first_of-there.result + c.loop-i.i in
    let n = c.contest-targets.result.targets - c.loop-i.i in
    let m = c.contest-targets.result.targets - (c.loop-i.i + 1) in
    let one : n ≡ suc m = omega (arith, c.loop-i-test.true) in
    let here : c.first_of-here.result + (c.loop-i.i + 1) ≡ t + 1 = omega arith in
    let there : c.first_of-there.result + (c.loop-i.i + 1) ≡ u + 1 = omega arith in
    let order : c.cmp-order.result ≡ nat_cmp (lo p t) (lo p u) = c.cmp-order.ensures ∙ (λ i. nat_cmp (c.lo.ensures i) (c.lo-in-loop-i.ensures i)) in
    let same : nat_cmp (lo p t) (lo p u) ≡ Equal = sym order ∙ is_equal c.cmp-order.result (sym c.ne.ensures ∙ c.if-ne.false) in
    equal_here (lo p) t u (c.first_of-here.result + (c.loop-i.i + 1)) (c.first_of-there.result + (c.loop-i.i + 1)) n m one here there same ∙ c.loop-i.invariant
