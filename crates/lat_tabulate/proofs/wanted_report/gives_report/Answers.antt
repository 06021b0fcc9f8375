use Rattle.std.proofs.Common.{◌≡◌, ◌∙◌, ◌<◌, refl, ap, sym, arith, get_or, ℕ, List}
use borrow.Author.Count.{below_more}
use Rattle.lat_base.specs.Shape.{target_count}
use Rattle.lat_base.specs.Tally.{total}
use Rattle.readings.proofs.Reports.{report_at, are_report}
use Rattle.lat_tabulate.proofs.wanted_report.gives_report.Goals as goal

pub returns-then-total_under-totals : goal.returns-then-total_under-totals
returns-then-total_under-totals c =
    let cs = c.args.shape.now in
    let deck = c.args.deck.now.ballots in
    let u = c.loop-u.u in
    let lt : u < target_count cs = omega (arith, c.loop-u-test.true, c.targets-u-end.ensures.count) in (
      λ h. cc h,
      λ e. absurd (c.if-total_under-totals.true
          (c.total_under.ensures.votes ∙ (sym (report_at cs deck c.args.s.now u lt)
          ∙ ap (λ (r : List ℕ). get_or r u 0) e))),
    )

pub loop-u-preserved : goal.loop-u-preserved
loop-u-preserved c =
    below_more (λ (x : ℕ). total c.args.shape.now c.args.deck.now.ballots c.args.s.now x
    ≡ get_or c.args.totals.now x 0) c.loop-u.u c.loop-u.invariant
    (sym c.total_under.ensures.votes ∙ c.if-total_under-totals.false)

pub returns : goal.returns
returns c = (
  λ h. are_report c.args.shape.now c.args.deck.now.ballots c.args.s.now c.args.totals.now
      c.requires.totals (λ u lt. c.loop-u.invariant u (omega arith)),
  λ e. refl,
)
