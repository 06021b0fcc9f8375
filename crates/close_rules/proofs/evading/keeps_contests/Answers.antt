use Rattle.std.proofs.Common.{◌≡◌, ◌+◌, ◌-◌, suc, List, length, sym, ap, refl, ◌∙◌, arith}
use Rattle.lat_base.specs.declared.contest.Contest.{Contest}
use Rattle.close_rules.specs.Evading.{keeps_contest}
use Rattle.close_rules.proofs.Along.{passes_here}
use Rattle.close_rules.proofs.evading.keeps_contests.Goals as goal

pub loop-c-preserved : goal.loop-c-preserved
loop-c-preserved c =
    let p = c.args.state.now in
    let end : c.contests-c-end.result ≡ length p.contests = c.contests-c-end.ensures.count ∙ ap (λ (x : List Contest). length x) c.shape.ensures.value in
    let one : length p.contests - c.loop-c.c ≡ suc (length p.contests - (c.loop-c.c + 1)) = omega (arith, c.loop-c-test.true, end) in
    passes_here (keeps_contest p c.args.s.now) c.loop-c.c (c.loop-c.c + 1) (length p.contests - c.loop-c.c) (length p.contests - (c.loop-c.c + 1)) one refl (sym c.keeps_contest.ensures ∙ c.if-not-keeps_contest.false) ∙ c.loop-c.invariant
