use Rattle.std.proofs.Common.{◌≡◌, ◌+◌, ◌-◌, ◌<◌, ◌≤◌, suc, max, ap, sym, ◌∙◌, arith}
use Rattle.deck_state.specs.Votes.{lo, hi}
use Rattle.close_rules.proofs.Rising.{further, above_high, above_most}
use Rattle.close_rules.proofs.totals.is_above.Goals as goal
use Rattle.close_rules.proofs.totals.is_above.Goals.{then-hi-least-via-then-hi-least, then-hi-least-via-else-hi-least+then-most-least}

pub returns-then-hi-least : goal.returns-then-hi-least
returns-then-hi-least c =
    let p = c.args.state.now in
    let t = c.first_of-first.result + c.loop-i.i in
    let n = c.contest-targets.result.targets - c.loop-i.i in
    let one : n ≡ suc (n - 1) = omega (arith, c.loop-i-test.true) in
    let least : c.max-least.result ≡ max c.loop-i.from (lo p t) = c.max-least.ensures ∙ ap (max c.loop-i.from) c.lo.ensures in
    elim c.then-hi-least.branch [
      | then-hi-least-via-then-hi-least w ↦
          let high : hi p t < c.max-least.result = omega (arith, w.if-hi-least.true, c.hi.ensures) in
          sym (above_high (lo p) (hi p) c.most_voting-most.result c.loop-i.from t n (n - 1) c.max-least.result one least high) ∙ c.loop-i.invariant
      | then-hi-least-via-else-hi-least+then-most-least w ↦
          sym (above_most (lo p) (hi p) c.most_voting-most.result c.loop-i.from t n (n - 1) c.max-least.result one least w.if-most-least.true) ∙ c.loop-i.invariant
    ]

pub loop-i-preserved : goal.loop-i-preserved
loop-i-preserved c =
    let p = c.args.state.now in
    let t = c.first_of-first.result + c.loop-i.i in
    let n = c.contest-targets.result.targets - c.loop-i.i in
    let m = c.contest-targets.result.targets - (c.loop-i.i + 1) in
    let one : n ≡ suc m = omega (arith, c.loop-i-test.true) in
    let next : c.first_of-first.result + (c.loop-i.i + 1) ≡ t + 1 = omega arith in
    let least : c.max-least.result ≡ max c.loop-i.from (lo p t) = c.max-least.ensures ∙ ap (max c.loop-i.from) c.lo.ensures in
    let fits : c.max-least.result ≤ hi p t = omega (arith, c.if-hi-least.false, c.hi.ensures) in
    further (lo p) (hi p) c.most_voting-most.result c.loop-i.from t (c.first_of-first.result + (c.loop-i.i + 1)) n m c.max-least.result one next least fits c.if-most-least.false ∙ c.loop-i.invariant
