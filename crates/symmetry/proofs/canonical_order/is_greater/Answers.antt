use Rattle.std.proofs.Common.{◌<◌, ◌≤◌, ap, ◌∙◌, arith}
use Rattle.lat_base.specs.declared.contest.Contest.{Contest}
use Rattle.lat_base.specs.Shape.{contest_at}
use Rattle.lat_base.specs.Tally.{own_total}
use Rattle.symmetry.proofs.Compared.{decided, further, ended}
use Rattle.symmetry.proofs.canonical_order.is_greater.Goals as goal

pub returns-then-here-there : goal.returns-then-here-there
returns-then-here-there c =
    let total = own_total c.args.shape.now c.args.deck.now.ballots in
    let inside : c.loop-i.i < (contest_at c.args.shape.now c.args.c).targets = omega (arith, c.loop-i-test.true, ap (λ (x : Contest). x.targets) c.contest-i-end.ensures) in
    decided c.args.shape.now total c.args.c c.args.d c.loop-i.i c.total-here.result c.total-there.result c.requires.alike inside
    (c.total-here.ensures.votes ∙ ap total c.target_of.ensures.value) (c.total-there.ensures.votes ∙ ap total c.target_of-in-loop-i.ensures.value) c.if-here-there.true c.loop-i.invariant

pub loop-i-preserved : goal.loop-i-preserved
loop-i-preserved c =
    let total = own_total c.args.shape.now c.args.deck.now.ballots in
    let inside : c.loop-i.i < (contest_at c.args.shape.now c.args.c).targets = omega (arith, c.loop-i-test.true, ap (λ (x : Contest). x.targets) c.contest-i-end.ensures) in
    further c.args.shape.now total c.args.c c.args.d c.loop-i.i c.total-here.result c.total-there.result c.requires.alike inside
    (c.total-here.ensures.votes ∙ ap total c.target_of.ensures.value) (c.total-there.ensures.votes ∙ ap total c.target_of-in-loop-i.ensures.value) c.if-here-there.false c.loop-i.invariant

pub returns : goal.returns
returns c =
    let end : (contest_at c.args.shape.now c.args.c).targets ≤ c.loop-i.i = omega (arith, c.loop-i-test.false, ap (λ (x : Contest). x.targets) c.contest-i-end.ensures) in
    ended c.args.shape.now (own_total c.args.shape.now c.args.deck.now.ballots) c.args.c c.args.d c.loop-i.i c.requires.alike end c.loop-i.invariant
