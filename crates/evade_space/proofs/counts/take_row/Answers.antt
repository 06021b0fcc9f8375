use Rattle.std.proofs.Common.{◌∙◌, arith}
use Rattle.lat_base.specs.Shape.{contest_at}
use Rattle.evade_space.proofs.KeptLost.{Moves}
use Rattle.evade_space.proofs.MovedMarks.{row_rises, free_falls, free_some, row_few, lost_then}
use Rattle.evade_space.proofs.counts.take_row.Goals as goal

moved : (c : goal.After-lost_of-after)
    → Moves c.args.space.now c.args.sources.now c.args.u c.args.t c.lost_of-before.result
    c.lost_of-after.result
moved c =
    lost_then c.args.space.now c.args.sources.now c.args.u c.args.t c.requires.giving c.limit_of-limit.result c.lost_of-before.result c.lost_of-after.result c.as_slice.result.now c.as_slice-2.result.now c.ballots-ballots.ensures.sought
    (c.limit_of-limit.ensures ∙ (λ i. (contest_at c.args.space.now.contests (c.contest_of.ensures.value i)).limit))
    c.lost_of-before.ensures.sum (c.as_slice.ensures.value ∙ c.requires.row) c.lost_of-after.ensures.sum
    (c.as_slice-2.ensures.value ∙ row_rises c.args.space.now c.args.sources.now c.args.u c.args.t c.requires.giving c.args.row.now.items c.move_marks.new.to.items c.requires.row c.move_marks.ensures.to_long c.move_marks.ensures.more)

pub move_marks-requires-clause-some : goal.move_marks-requires-clause-some
move_marks-requires-clause-some c = free_some c.args.space.now c.args.sources.now c.args.u c.args.t c.requires.giving c.args.free.now.items c.requires.free

pub move_marks-requires-clause-few : goal.move_marks-requires-clause-few
move_marks-requires-clause-few c = row_few c.args.space.now c.args.sources.now c.args.u c.args.t c.requires.giving c.args.row.now.items c.requires.row

pub overflow_add-result : goal.overflow_add-result
overflow_add-result c = let m = moved c in omega (arith, m.few, c.requires.kept)

pub overflow_sub-result : goal.overflow_sub-result
overflow_sub-result c = let m = moved c in omega (arith, m.less, c.requires.kept)

pub returns : goal.returns
returns c = let m = moved c in record {
  free = free_falls c.args.space.now c.args.sources.now c.args.u c.args.t c.requires.giving c.args.free.now.items c.move_marks.new.from.items c.requires.free c.move_marks.ensures.from_long c.move_marks.ensures.fewer;
  row = row_rises c.args.space.now c.args.sources.now c.args.u c.args.t c.requires.giving c.args.row.now.items c.move_marks.new.to.items c.requires.row c.move_marks.ensures.to_long c.move_marks.ensures.more;
  lost = omega (arith, m.kept, c.requires.kept);
}
