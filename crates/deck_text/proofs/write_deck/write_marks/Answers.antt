use Rattle.std.proofs.Common.{length, ap, arith}
use Rattle.deck_text.proofs.ContestLines.{contest_few}
use Rattle.deck_text.proofs.write_deck.write_marks.Goals as goal

pub overflow_cast-first : goal.overflow_cast-first
overflow_cast-first c =
    let few = contest_few c.args.names.now.contests c.contests-contest-items.result.now c.contest-item.result c.loop-contest.contest-index c.contests-contest-items.ensures c.loop-contest-test.true c.contest-item.is in
    omega (arith, few, c.requires.targets, c.targets-targets.ensures.deck.few_targets, ap length c.as_slice.ensures)

pub overflow_add-first : goal.overflow_add-first
overflow_add-first c =
    let few = contest_few c.args.names.now.contests c.contests-contest-items.result.now c.contest-item.result c.loop-contest.contest-index c.contests-contest-items.ensures c.loop-contest-test.true c.contest-item.is in
    omega (arith, few, c.loop-contest.invariant.place, c.requires.targets, c.targets-targets.ensures.deck.few_targets, ap length c.as_slice.ensures)
