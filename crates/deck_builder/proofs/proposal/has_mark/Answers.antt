use Rattle.std.proofs.Common.{◌+◌, ◌-◌, ◌≤◌, ap, sym, ◌∙◌, arith, length}
use Rattle.std.proofs.lemmas.List.FromFn.{length-map-range_with_len}
use Rattle.lat_base.specs.Shape.{target_count}
use Rattle.deck_builder.specs.declared.runs.Run.{Run}
use Rattle.deck_builder.specs.Pattern.{pattern, is_laid}
use Rattle.deck_builder.specs.Runs.{run_of}
use Rattle.deck_builder.proofs.PatternRows.{no_mark, laid_mark}
use Rattle.deck_builder.proofs.Places.{few_in_run}
use Rattle.deck_builder.proofs.Laying.{run_read}
use Rattle.deck_builder.proofs.proposal.has_mark.Goals as goal

pub returns-then-j-over-2 : goal.returns-then-j-over-2
returns-then-j-over-2 c =
    let p = pattern c.args.shape.now c.args.rules.now c.args.k c.args.turn in
    let last : p.rules.over + p.working ≤ c.args.j = omega (arith, c.if-j-over.false, c.if-j-over-2.true, c.over-over.ensures.value, c.working_ballots-working.ensures.value) in
    sym (no_mark p c.args.j c.args.t last (omega (arith, c.requires.ballot, c.requires.fits.apart)) c.requires.target)

pub bounds-runs-from : goal.bounds-runs-from
bounds-runs-from c =
    let p = pattern c.args.shape.now c.args.rules.now c.args.k c.args.turn in
    omega (arith, c.from.ensures, c.requires.target, ap length c.requires.runs, length-map-range_with_len (run_of p) 0 (target_count p.contests))

pub is_laid-requires-clause-few : goal.is_laid-requires-clause-few
is_laid-requires-clause-few c =
    let p = pattern c.args.shape.now c.args.rules.now c.args.k c.args.turn in
    omega (arith, ap (λ (run : Run). run.marks) (run_read p c.args.runs.now c.args.t c.from.result (record { place = 0; marks = 0 }) c.requires.runs c.requires.target c.from.ensures), few_in_run p c.args.t c.requires.fits.fits c.requires.target, c.working_ballots-working.ensures.value)

pub returns : goal.returns
returns c =
    let p = pattern c.args.shape.now c.args.rules.now c.args.k c.args.turn in
    let j = c.args.j in
    let over = c.over-over.ensures.value in
    let working = c.working_ballots-working.ensures.value in
    let run = run_read p c.args.runs.now c.args.t c.from.result (record { place = 0; marks = 0 }) c.requires.runs c.requires.target c.from.ensures in
    c.is_laid.ensures
    ∙ ((λ i. is_laid (working i) (run i).place (run i).marks (j - over i))
    ∙ sym (laid_mark p j c.args.t (omega (arith, c.if-j-over.false, over)) (omega (arith, c.if-j-over-2.false, over, working)) c.requires.target))
