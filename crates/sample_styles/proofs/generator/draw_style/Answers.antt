use Rattle.std.proofs.Common.{◌≡◌, ◌+◌, ◌-◌, suc, arith, rules}
use Rattle.sample_styles.proofs.Drawn.{contest_more, behind_more, contests_end, behind_end}
use Rattle.sample_styles.proofs.generator.draw_style.Goals as goal

pub loop-preserved : goal.loop-preserved
loop-preserved c =
    let count = 1 + c.draw-count.result in
    let i = c.loop.counter in
    let one : count - i ≡ suc (count - (i + 1)) = omega (arith, c.loop-test.true) in
    let more = contest_more _ _ c.loop.x c.loop.contests.items _ one c.loop.invariant.contests in
    let behind = behind_more _ _ c.loop.x _ one c.loop.invariant.behind in
    record {
      contests = search (rules, more, c.in_ok-push.ensures, c.draw_contest.ensures);
      behind = search (rules, behind, c.draw_contest.ensures);
    }

pub returns-clause-contests : goal.returns-clause-contests
returns-clause-contests c =
    let none : 1 + c.draw-count.result - c.loop.counter ≡ 0 = omega (arith, c.loop-test.false) in
    contests_end _ c.loop.x _ _ none c.loop.invariant.contests

pub returns-clause-behind : goal.returns-clause-behind
returns-clause-behind c =
    let none : 1 + c.draw-count.result - c.loop.counter ≡ 0 = omega (arith, c.loop-test.false) in
    behind_end _ c.loop.x _ none c.loop.invariant.behind
