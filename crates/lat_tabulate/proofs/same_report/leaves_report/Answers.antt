use Rattle.std.proofs.Common.{◌≡◌, ◌∙◌, ◌<◌, sym, refl, arith, ℕ}
use borrow.Author.Count.{below_more}
use Rattle.lat_base.specs.Shape.{target_count}
use Rattle.lat_base.specs.Misassignment.{identity}
use Rattle.lat_base.specs.Tally.{total, own_total}
use Rattle.readings.proofs.Reports.{report_same, same_report}
use Rattle.lat_tabulate.proofs.same_report.leaves_report.Goals as goal

pub returns-then-total_under-total : goal.returns-then-total_under-total
returns-then-total_under-total c =
    let cs = c.args.shape.now in
    let deck = c.args.deck.now.ballots in
    let u = c.loop-u.u in
    let lt : u < target_count cs = omega (arith, c.loop-u-test.true, c.targets-u-end.ensures.count) in (
      λ h. cc h,
      λ e. absurd (c.if-total_under-total.true
          (c.total_under.ensures.votes ∙ (report_same cs deck c.args.s.now (identity (target_count cs)) u lt e ∙ sym c.total.ensures.votes))),
    )

pub loop-u-preserved : goal.loop-u-preserved
loop-u-preserved c =
    below_more (λ (x : ℕ). total c.args.shape.now c.args.deck.now.ballots c.args.s.now x ≡ own_total c.args.shape.now c.args.deck.now.ballots x) c.loop-u.u c.loop-u.invariant
    (sym c.total_under.ensures.votes ∙ (c.if-total_under-total.false ∙ c.total.ensures.votes))

pub returns : goal.returns
returns c = (λ h. same_report c.args.shape.now c.args.deck.now.ballots c.args.s.now (identity (target_count c.args.shape.now)) (λ u lt. c.loop-u.invariant u (omega arith)), λ e. refl)
