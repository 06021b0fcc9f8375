use Rattle.std.proofs.Common.{◌≡◌, ◌+◌, ◌-◌, ℕ, suc, true, false, sym, ◌∙◌, arith}
use Rattle.std.specs.Prelude.{◌==◌}
use Rattle.std.proofs.lemmas.Bool.Decides.{nat_tests}
use Rattle.deck_state.specs.Votes.{lo, hi}
use Rattle.close_rules.proofs.Along.{passes_here, fails_here}
use Rattle.close_rules.proofs.fixed.is_fixed.Goals as goal

pub returns-then-lo-hi : goal.returns-then-lo-hi
returns-then-lo-hi c =
    let p = c.args.state.now in
    let t = c.first_of-first.result + c.loop-i.i in
    let n = c.contest-targets.result.targets - c.loop-i.i in
    let one : n ≡ suc (n - 1) = omega (arith, c.loop-i-test.true) in
    let differ : (lo p t == hi p t) ≡ false = grind (arith, nat_tests, c.lo.ensures, c.hi.ensures, c.if-lo-hi.true) in
    sym (fails_here (λ (u : ℕ). lo p u == hi p u) t n (n - 1) one differ) ∙ c.loop-i.invariant

pub loop-i-preserved : goal.loop-i-preserved
loop-i-preserved c =
    let p = c.args.state.now in
    let t = c.first_of-first.result + c.loop-i.i in
    let n = c.contest-targets.result.targets - c.loop-i.i in
    let m = c.contest-targets.result.targets - (c.loop-i.i + 1) in
    let one : n ≡ suc m = omega (arith, c.loop-i-test.true) in
    let next : c.first_of-first.result + (c.loop-i.i + 1) ≡ t + 1 = omega arith in
    let same : (lo p t == hi p t) ≡ true = grind (arith, nat_tests, c.lo.ensures, c.hi.ensures, c.if-lo-hi.false) in
    passes_here (λ (u : ℕ). lo p u == hi p u) t (c.first_of-first.result + (c.loop-i.i + 1)) n m one next same ∙ c.loop-i.invariant
