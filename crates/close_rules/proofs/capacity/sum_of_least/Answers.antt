use Rattle.std.proofs.Common.{◌≡◌, ◌+◌, ◌-◌, ◌<◌, ◌≤◌, suc, max, List, ap, ◌∙◌, arith}
use Rattle.lat_base.specs.declared.contest.Contest.{Contest}
use Rattle.lat_base.specs.Shape.{target_count, first_target, contest_at, no_contest}
use Rattle.readings.proofs.Places.{nth_within}
use Rattle.deck_state.specs.Votes.{lo}
use Rattle.close_rules.proofs.FewVotes.{lo_few}
use Rattle.close_rules.proofs.Rising.{sum_further}
use Rattle.close_rules.proofs.capacity.sum_of_least.Goals as goal

pub loop-i-preserved : goal.loop-i-preserved
loop-i-preserved c =
    let p = c.args.state.now in
    let contests = p.contests in
    let t = c.first_of-first.result + c.loop-i.i in
    let n = c.contest-targets.result.targets - c.loop-i.i in
    let m = c.contest-targets.result.targets - (c.loop-i.i + 1) in
    let first : c.first_of-first.result ≡ first_target contests c.args.c = c.first_of-first.ensures.value ∙ ap (λ (x : List Contest). first_target x c.args.c) c.shape.ensures.value in
    let targets : c.contest-targets.result.targets ≡ (contest_at contests c.args.c).targets = ap (λ (x : Contest). x.targets) c.contest-targets.ensures ∙ ap (λ (x : List Contest). (contest_at x c.args.c).targets) c.shape-2.ensures.value in
    let within : t < target_count contests = omega (arith, first, nth_within contests c.args.c c.loop-i.i c.requires (omega (arith, targets, c.loop-i-test.true))) in
    let few : c.lo.result ≤ 1024 = omega (arith, c.lo.ensures, lo_few p t c.shape.ensures.partial within) in
    let at_most : (contest_at contests c.args.c).targets ≤ 64 = (c.shape.ensures.partial.shape.counts c.args.c no_contest c.requires).1 in
    let least : c.max-least.result ≡ max c.loop-i.from (lo p t) = c.max-least.ensures ∙ ap (max c.loop-i.from) c.lo.ensures in
    let one : n ≡ suc m = omega (arith, c.loop-i-test.true) in
    let next : c.first_of-first.result + (c.loop-i.i + 1) ≡ t + 1 = omega arith in
    record {
      all = omega (arith, c.from-sum.ensures, c.loop-i.invariant.all, sum_further (lo p) c.loop-i.from t (c.first_of-first.result + (c.loop-i.i + 1)) n m c.max-least.result one next least);
      low = omega (arith, c.max-least.ensures, few, c.loop-i.invariant.low);
      small = omega (arith, c.from-sum.ensures, c.max-least.ensures, few, c.loop-i.invariant.low, c.loop-i.invariant.small, targets, at_most, c.loop-i-test.true);
    }
