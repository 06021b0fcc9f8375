use Rattle.std.proofs.Common.{◌≡◌, ◌<◌, ap, ◌∙◌, arith}
use Rattle.deck_builder.specs.declared.counts.Marking.{Marking}
use Rattle.deck_builder.specs.Pattern.{pattern, size, mark_total}
use Rattle.deck_builder.specs.Runs.{marks_of}
use Rattle.deck_builder.proofs.Places.{runs_more, place_more}
use Rattle.deck_builder.proofs.runs.push_runs.Goals as goal

pub loop-i-preserved : goal.loop-i-preserved
loop-i-preserved c =
    let p = pattern c.args.shape.now c.args.rules.now c.args.k c.args.turn in
    let i = c.loop-i.i in
    let is = c.marking_in-marking.ensures.value in
    let marks : c.marks-marks.result ≡ mark_total p c.args.c i = c.marks-marks.ensures.value ∙ ap (λ (m : Marking). marks_of m i) is in
    let within : i < size p c.args.c = omega (arith, c.loop-i-test.true, ap (λ (m : Marking). m.targets) is) in
    record {
      runs = runs_more p c.args.c i c.loop-i.runs.items c.push.new.self.items (record { place = c.loop-i.place; marks = c.marks-marks.result }) c.requires.contest within c.loop-i.invariant.runs
          (λ k. record { place = c.loop-i.invariant.place k; marks = marks k }) c.in_ok-push.ensures.items;
      place = omega (arith, c.from-place.ensures, c.loop-i.invariant.place, place_more p c.args.c i, marks);
      small = omega (arith, c.from-place.ensures, c.loop-i.invariant.small, c.marks-marks.ensures.few);
    }
