use Rattle.std.proofs.Common.{List, ℕ, ◌++◌, ap, sym, ◌∙◌}
use Rattle.deck_text.specs.TargetNames.{target_names}
use Rattle.deck_text.specs.TotalsText.{totals_header, total_line}
use Rattle.deck_text.proofs.Ranges.{lines_more}
use Rattle.deck_text.proofs.write_totals.totals_csv.Goals as goal

pub loop-t-preserved : goal.loop-t-preserved
loop-t-preserved c =
    let lines = total_line c.args.shape.now (target_names c.args.names.now.contests) c.args.deck.now.ballots in
    c.in_ok-table-2.ensures ∙ ap (λ (text : List ℕ). text ++ lines c.loop-t.t) c.loop-t.invariant ∙ sym (lines_more lines totals_header c.loop-t.t)
