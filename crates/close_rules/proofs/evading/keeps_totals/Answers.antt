use Rattle.std.proofs.Common.{◌≡◌, ◌+◌, ◌-◌, ◌&&◌, suc, Bool, true, false, List, sym, ap, ◌∙◌, arith}
use Rattle.std.specs.List.{list_all}
use Rattle.lat_base.specs.declared.contest.Contest.{Contest}
use Rattle.lat_base.specs.Shape.{contest_at}
use Rattle.readings.specs.Structural.{targets_of}
use Rattle.close_rules.specs.Evading.{keeps_total, is_decided}
use Rattle.close_rules.proofs.Along.{passes_here, fails_here}
use Rattle.close_rules.proofs.evading.keeps_totals.Goals as goal

pub returns-then-not-keeps_total : goal.returns-then-not-keeps_total
returns-then-not-keeps_total c =
    let p = c.args.state.now in
    let n = (contest_at p.contests c.args.c).targets in
    let targets : c.contest-i-end.result.targets ≡ n = ap (λ (x : Contest). x.targets) c.contest-i-end.ensures ∙ ap (λ (x : List Contest). (contest_at x c.args.c).targets) c.shape-2.ensures.value in
    let one : n - c.loop-i.i ≡ suc (n - (c.loop-i.i + 1)) = omega (arith, targets, c.loop-i-test.true) in
    let some : list_all (keeps_total p c.args.s.now) (targets_of p.contests c.args.c) ≡ false =
    sym c.loop-i.invariant ∙ fails_here (keeps_total p c.args.s.now) (c.first_of-first.result + c.loop-i.i) (n - c.loop-i.i) (n - (c.loop-i.i + 1)) one (sym c.keeps_total.ensures ∙ c.if-not-keeps_total.true) in
    either (is_decided p c.args.c) (list_all (keeps_total p c.args.s.now) (targets_of p.contests c.args.c)) some
  where
    either : (a b : Bool) → b ≡ false → false ≡ (a && b)
    either true b e = sym e
    either false b e = λ i. false

pub loop-i-preserved : goal.loop-i-preserved
loop-i-preserved c =
    let p = c.args.state.now in
    let n = (contest_at p.contests c.args.c).targets in
    let t = c.first_of-first.result + c.loop-i.i in
    let targets : c.contest-i-end.result.targets ≡ n = ap (λ (x : Contest). x.targets) c.contest-i-end.ensures ∙ ap (λ (x : List Contest). (contest_at x c.args.c).targets) c.shape-2.ensures.value in
    let one : n - c.loop-i.i ≡ suc (n - (c.loop-i.i + 1)) = omega (arith, targets, c.loop-i-test.true) in
    let next : c.first_of-first.result + (c.loop-i.i + 1) ≡ t + 1 = omega arith in
    passes_here (keeps_total p c.args.s.now) t (c.first_of-first.result + (c.loop-i.i + 1)) (n - c.loop-i.i) (n - (c.loop-i.i + 1)) one next (sym c.keeps_total.ensures ∙ c.if-not-keeps_total.false) ∙ c.loop-i.invariant
