use Rattle.std.proofs.Common.{◌≡◌, ◌+◌, ◌<◌, ◌≤◌, ℕ, Bool, length, map, count_by, ap, sym, ◌∙◌, arith}
use Rattle.std.specs.Prelude.{slice_range}
use Rattle.lat_base.specs.Shape.{first_target, target_count}
use Rattle.lat_base.specs.Tally.{reading}
use Rattle.deck_state.proofs.Seen.{at_most_one}
use Rattle.readings.proofs.Places.{first_next}
use Rattle.deck_state.specs.declared.mark.Mark.TheVariants.{Marked}
use Rattle.deck_state.specs.Mark.{is_marked}
use Rattle.close_rules.proofs.RowVotes.{source_in, read_mark, read_more}
use Rattle.close_rules.proofs.kept.count_read.Goals as goal

pub bounds-row-source : goal.bounds-row-source
bounds-row-source c =
    let within : c.loop-u.u < target_count c.args.shape.now = omega (arith, c.loop-u-test.true, c.first_of-u-end.ensures.within) in
    source_in (target_count c.args.shape.now) c.args.s.now c.args.row.now c.loop-u.u c.source.result c.len-sources.ensures.sources c.requires.targets c.requires.long within c.source.ensures

pub loop-u-preserved : goal.loop-u-preserved
loop-u-preserved c =
    let first = first_target c.args.shape.now c.args.c in
    let within : c.loop-u.u < target_count c.args.shape.now = omega (arith, c.loop-u-test.true, c.first_of-u-end.ensures.within) in
    let place = source_in (target_count c.args.shape.now) c.args.s.now c.args.row.now c.loop-u.u c.source.result c.len-sources.ensures.sources c.requires.targets c.requires.long within c.source.ensures in
    let long : c.loop-u.u < length c.args.s.now = omega (arith, within, c.requires.targets) in
    let mark = read_mark c.args.s.now c.args.row.now c.loop-u.u c.source.result Marked long place c.source.ensures ∙ sym c.is_marked.ensures in
    let from : first ≤ c.loop-u.u = omega (arith, c.loop-u.auto.u, c.first_of-u.ensures.value) in
    record {
      count = read_more c.args.s.now c.args.row.now first c.loop-u.u c.loop-u.count c.from-count.result c.is_marked.result from long c.loop-u.invariant.count c.from-count.ensures mark;
      small = omega (arith, c.loop-u.invariant.small, c.from-count.ensures, at_most_one c.is_marked.result);
    }

pub returns : goal.returns
returns c =
    let next = first_next c.args.shape.now c.args.c c.requires.contest in
    let end : c.loop-u.u ≡ first_target c.args.shape.now (c.args.c + 1) = omega (arith, next, c.loop-u-test.false, c.loop-u.auto.u-end, c.loop-u.auto.u, c.first_of-u.ensures.value, c.first_of-u-end.ensures.value) in
    c.loop-u.invariant.count ∙ ap (λ (u : ℕ). count_by (λ (m : Bool). m) (slice_range (reading (map is_marked c.args.row.now) c.args.s.now) (first_target c.args.shape.now c.args.c) u)) end
