use Rattle.std.proofs.Common.{◌≡◌, ◌+◌, ◌-◌, ◌<◌, ℕ, suc, min, subst, arith, inl, inr}
use Rattle.std.specs.Prelude.{◌⊎◌}
use Rattle.close_rules.proofs.Choices.{left, full, ended, joined}
use Rattle.close_rules.proofs.pigeon.+count_lists.Goals as goal
use Rattle.close_rules.proofs.pigeon.+count_lists.Goals.{then-gap-eq0-via-then-gap-eq0, then-gap-eq0-via-else-gap-eq0+then-spare-from}

pub returns-then-with_first-most-clause-count : goal.returns-then-with_first-most-clause-count
returns-then-with_first-most-clause-count t c = λ from.
    let n = c.args.n in
    let is : n ≡ suc (n - 1) = omega (arith, c.if-n-eq0.false) in
    full c.args.most c.count_lists-with_first.result n (n - 1) from c.args.gap c.args.spare is (c.count_lists-with_first.ensures.count (from + 1)) c.if-with_first-most.true

pub returns-then-gap-eq0-clause-count : goal.returns-then-gap-eq0-clause-count
returns-then-gap-eq0-clause-count t c = λ from.
    let n = c.args.n in
    let is : n ≡ suc (n - 1) = omega (arith, c.if-n-eq0.false) in
    let end : (c.args.gap ≡ 0) ⊎ (c.args.spare < n) = elim c.then-gap-eq0.branch [
      | then-gap-eq0-via-then-gap-eq0 w ↦ inl w.if-gap-eq0.true
      | then-gap-eq0-via-else-gap-eq0+then-spare-from w ↦ inr (omega (arith, w.if-spare-from.true, w.from.ensures))
    ] in
    ended c.args.most c.count_lists-with_first.result n (n - 1) from c.args.gap c.args.spare is (c.count_lists-with_first.ensures.count (from + 1)) end

pub returns-clause-count : goal.returns-clause-count
returns-clause-count t c = λ from.
    let n = c.args.n in
    let is : n ≡ suc (n - 1) = omega (arith, c.if-n-eq0.false) in
    let spent : c.from-2.result ≡ n = c.from-2.ensures in
    joined c.args.most c.count_lists-with_first.result c.count_lists.result n (n - 1) from c.args.gap c.args.spare is (c.count_lists-with_first.ensures.count (from + 1))
    (omega (arith, c.if-gap-eq0.false)) (omega (arith, c.if-spare-from.false, c.from.ensures)) (subst (λ (k : ℕ). c.count_lists.result ≡ min (c.args.most - c.count_lists-with_first.result) (left n (from + 1) (c.args.gap - 1) (c.args.spare - k))) spent (c.count_lists.ensures.count (from + 1)))
