use Rattle.std.proofs.Common.{◌≡◌, ◌+◌, ◌-◌, ◌*◌, ◌<◌, ℕ, min, List, length, ap, ◌∙◌, arith}
use Rattle.std.specs.List.{range_with_len, sum}
use Rattle.lat_base.specs.declared.contest.Contest.{Contest}
use Rattle.lat_base.specs.Rules.{RuleSet}
use Rattle.lat_base.specs.Shape.{contest_at, no_contest}
use Rattle.close_rules.specs.Pigeon.{rising_lists}
use Rattle.close_rules.specs.Totals.{most_voting}
use Rattle.close_rules.proofs.Choices.{count_is, too_short, too_poor}
use Rattle.close_rules.proofs.pigeon.count_totals.Goals as goal
use Rattle.close_rules.proofs.pigeon.count_totals.Goals.{then-voting-least-via-then-voting-least, then-voting-least-via-else-voting-least+then-room-needed}

pub returns-then-voting-least : goal.returns-then-voting-least
returns-then-voting-least c =
    let p = c.args.state.now in
    let contest = contest_at p.contests c.args.c in
    let most = most_voting p c.args.c in
    let least = p.rules.least in
    let is : c.contest-contest.result ≡ contest = c.contest-contest.ensures ∙ ap (λ (x : List Contest). contest_at x c.args.c) c.shape.ensures.value in
    let targets : c.contest-contest.result.targets ≡ contest.targets = ap (λ (x : Contest). x.targets) is in
    let limit : c.contest-contest.result.limit ≡ contest.limit = ap (λ (x : Contest). x.limit) is in
    let from : c.least-least.result ≡ least = c.least-least.ensures.value ∙ ap (λ (x : RuleSet). x.least) c.rules.ensures.value in
    let needed : c.least_sum-needed.result ≡ sum (range_with_len least contest.targets) = c.least_sum-needed.ensures ∙ (λ i. sum (range_with_len (from i) (targets i))) in
    let room : c.from.result * c.from-2.result ≡ contest.limit * most = λ i. (c.from.ensures ∙ limit) i * (c.from-2.ensures ∙ c.most_voting-voting.ensures.value) i in
    let count = count_is contest.targets least (most + 1 - least) (contest.limit * most) in
    elim c.then-voting-least.branch [
      | then-voting-least-via-then-voting-least w ↦
          omega (arith, count, too_short contest.targets least (most + 1 - least) (contest.limit * most) (omega (arith, w.if-voting-least.true, targets, from, c.most_voting-voting.ensures.value, some)))
      | then-voting-least-via-else-voting-least+then-room-needed w ↦
          omega (arith, count, too_poor contest.targets least (most + 1 - least) (contest.limit * most) (omega (arith, w.if-room-needed.true, room, needed)))
    ]
  where
    some : 0 < (contest_at c.args.state.now.contests c.args.c).targets
    some = omega (arith, (c.shape.ensures.partial.shape.counts c.args.c no_contest c.requires).0)

pub returns : goal.returns
returns c =
    let p = c.args.state.now in
    let contest = contest_at p.contests c.args.c in
    let most = most_voting p c.args.c in
    let least = p.rules.least in
    let is : c.contest-contest.result ≡ contest = c.contest-contest.ensures ∙ ap (λ (x : List Contest). contest_at x c.args.c) c.shape.ensures.value in
    let targets : c.contest-contest.result.targets ≡ contest.targets = ap (λ (x : Contest). x.targets) is in
    let limit : c.contest-contest.result.limit ≡ contest.limit = ap (λ (x : Contest). x.limit) is in
    let from : c.least-least.result ≡ least = c.least-least.ensures.value ∙ ap (λ (x : RuleSet). x.least) c.rules.ensures.value in
    let needed : c.least_sum-needed.result ≡ sum (range_with_len least contest.targets) = c.least_sum-needed.ensures ∙ (λ i. sum (range_with_len (from i) (targets i))) in
    let room : c.from.result * c.from-2.result ≡ contest.limit * most = λ i. (c.from.ensures ∙ limit) i * (c.from-2.ensures ∙ c.most_voting-voting.ensures.value) i in
    let gap = c.most_voting-voting.result + 1 - c.least-least.result - c.contest-contest.result.targets in
    let many : c.contest-contest.result.targets + gap ≡ most + 1 - least = omega (arith, c.if-voting-least.false, from, c.most_voting-voting.ensures.value) in
    let sums : sum (range_with_len least c.contest-contest.result.targets) + (c.from.result * c.from-2.result - c.least_sum-needed.result) ≡ contest.limit * most =
    omega (arith, ap (λ (k : ℕ). sum (range_with_len least k)) targets, needed, room, c.if-room-needed.false) in
    c.count_lists.ensures.count least ∙ (λ i. min c.args.most (length (rising_lists (targets i) least (many i) (sums i))))
