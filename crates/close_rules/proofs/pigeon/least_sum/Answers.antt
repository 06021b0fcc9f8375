use Rattle.std.proofs.Common.{◌≡◌, ◌+◌, ℕ, suc, ap, ◌∙◌, arith}
use Rattle.std.specs.List.{range_with_len, sum}
use Rattle.close_rules.proofs.Choices.{sum_last}
use Rattle.close_rules.proofs.pigeon.least_sum.Goals as goal

pub loop-i-preserved : goal.loop-i-preserved
loop-i-preserved c =
    let from = c.args.from in
    let i = c.loop-i.i in
    let next : i + 1 ≡ suc i = omega arith in
    let last : sum (range_with_len from (i + 1)) ≡ sum (range_with_len from i) + (from + i) = ap (λ (k : ℕ). sum (range_with_len from k)) next ∙ sum_last from i in
    record {
      sum = omega (arith, c.loop-i.invariant.sum, c.from-sum.ensures, last);
      small = omega (arith, c.loop-i.invariant.small, c.from-sum.ensures, c.requires.low, c.requires.few, c.loop-i-test.true);
    }
