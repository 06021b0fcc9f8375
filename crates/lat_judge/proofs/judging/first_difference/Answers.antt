use Rattle.std.proofs.Common.{◌≡◌, ◌<◌, ℕ, below_more, refl, arith}
use Rattle.std.specs.Prelude.{slice_get}
use Rattle.lat_base.specs.Shape.{target_count}
use Rattle.lat_judge.specs.Judging.{own_report}
use Rattle.lat_judge.proofs.Differences.{first_here, equal_here, exactly_here, no_difference, nowhere, all_equal, own_long}
use Rattle.lat_judge.proofs.judging.first_difference.Goals as goal

pub returns-then-told-votes-clause-pass : goal.returns-then-told-votes-clause-pass
returns-then-told-votes-clause-pass c =
    let contests = c.args.shape.now in
    let deck = c.args.deck.now.ballots in
    let told = c.args.reported.now in
    let t = c.loop-t.t in
    let lt : t < target_count contests = omega (arith, c.loop-t-test.true, c.targets-t-end.ensures.count) in
    let first = first_here contests deck told t c.total-votes.result c.requires.long lt c.total-votes.ensures.votes c.if-told-votes.true c.loop-t.invariant in (
      λ e. cc e,
      λ same. absurd (no_difference (own_report contests deck) told t _ _ same first),
    )

pub returns-then-told-votes-clause-differs : goal.returns-then-told-votes-clause-differs
returns-then-told-votes-clause-differs c =
    let contests = c.args.shape.now in
    let deck = c.args.deck.now.ballots in
    let told = c.args.reported.now in
    let t = c.loop-t.t in
    let lt : t < target_count contests = omega (arith, c.loop-t-test.true, c.targets-t-end.ensures.count) in
    exactly_here (own_report contests deck) told t _ _
    (first_here contests deck told t c.total-votes.result c.requires.long lt c.total-votes.ensures.votes c.if-told-votes.true c.loop-t.invariant)

pub loop-t-preserved : goal.loop-t-preserved
loop-t-preserved c =
    let contests = c.args.shape.now in
    let deck = c.args.deck.now.ballots in
    let told = c.args.reported.now in
    let t = c.loop-t.t in
    let lt : t < target_count contests = omega (arith, c.loop-t-test.true, c.targets-t-end.ensures.count) in
    below_more (λ (u : ℕ). slice_get told u ≡ slice_get (own_report contests deck) u) t c.loop-t.invariant
    (equal_here contests deck told t c.total-votes.result c.requires.long lt c.total-votes.ensures.votes c.if-told-votes.false)

pub returns-clause-pass : goal.returns-clause-pass
returns-clause-pass c =
    let contests = c.args.shape.now in
    let deck = c.args.deck.now.ballots in (
      λ e. all_equal c.args.reported.now (own_report contests deck) (target_count contests) c.requires.long (own_long contests deck)
          (λ u lt. c.loop-t.invariant u (omega (arith, lt, c.loop-t-test.false, c.targets-t-end.ensures.count))),
      λ same. refl,
    )

pub returns-clause-differs : goal.returns-clause-differs
returns-clause-differs c =
    let contests = c.args.shape.now in
    let deck = c.args.deck.now.ballots in
    nowhere (own_report contests deck) c.args.reported.now
    (all_equal c.args.reported.now (own_report contests deck) (target_count contests) c.requires.long (own_long contests deck)
    (λ u lt. c.loop-t.invariant u (omega (arith, lt, c.loop-t-test.false, c.targets-t-end.ensures.count))))
