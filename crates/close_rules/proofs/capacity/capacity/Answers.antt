use Rattle.std.proofs.Common.{◌≡◌, ℕ, nat_lt, min, map, List, ap, sym, ◌∙◌, arith}
use Rattle.lat_base.specs.declared.contest.Contest.{Contest}
use Rattle.lat_base.specs.Shape.{contest_at}
use Rattle.lemmas.proofs.Counting.{count_map}
use Rattle.close_rules.specs.Capacity.{most_votes}
use Rattle.close_rules.proofs.Capacities.{capacity_by_levels}
use Rattle.close_rules.proofs.Levels.{count_above, levels, level_more}
use Rattle.close_rules.proofs.capacity.capacity.Goals as goal

pub loop-votes-preserved : goal.loop-votes-preserved
loop-votes-preserved c =
    let p = c.args.state.now in
    let can = most_votes p.contests c.args.c in
    let above : c.count_above.result ≡ count_above c.loop-votes.votes (map can p.marks) = c.count_above.ensures ∙ sym (count_map can (λ (n : ℕ). nat_lt c.loop-votes.votes n) p.marks) in
    let one : c.from-sum.result ≡ min c.most_voting-most.result (count_above c.loop-votes.votes (map can p.marks)) = c.from-sum.ensures ∙ (c.min.ensures ∙ ap (min c.most_voting-most.result) above) in
    record {
      sum = omega (arith, one, c.loop-votes.invariant.sum, level_more c.loop-votes.votes c.most_voting-most.result (map can p.marks));
      small = omega (arith, c.from-sum.ensures, c.min.ensures, c.most_voting-most.ensures.few, c.loop-votes.invariant.small);
    }

pub returns : goal.returns
returns c =
    let p = c.args.state.now in
    let numbers = map (most_votes p.contests c.args.c) p.marks in
    let limit : c.contest-votes-end.result.limit ≡ (contest_at p.contests c.args.c).limit =
    ap (λ (x : Contest). x.limit) c.contest-votes-end.ensures ∙ ap (λ (x : List Contest). (contest_at x c.args.c).limit) c.shape.ensures.value in
    let all : c.loop-votes.votes ≡ (contest_at p.contests c.args.c).limit = omega (arith, limit, c.loop-votes-test.false, c.loop-votes.auto.votes-end) in
    c.loop-votes.invariant.sum ∙ ((λ i. levels (all i) (c.most_voting-most.ensures.value i) numbers) ∙ capacity_by_levels p c.args.c)
