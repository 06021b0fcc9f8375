use Rattle.std.proofs.Common.{List, ℕ, ◌++◌, ap, sym, ◌∙◌}
use Rattle.deck_text.specs.TargetNames.{target_names}
use Rattle.deck_text.specs.DeckText.{deck_header, numbered_lines}
use Rattle.deck_text.proofs.Ranges.{lines_more}
use Rattle.deck_text.proofs.write_deck.deck_csv.Goals as goal

pub loop-j-preserved : goal.loop-j-preserved
loop-j-preserved c =
    let lines = numbered_lines (target_names c.args.names.now.contests) c.args.deck.now.ballots in
    c.in_ok-table-2.ensures ∙ ap (λ (text : List ℕ). text ++ lines c.loop-j.j) c.loop-j.invariant ∙ sym (lines_more lines deck_header c.loop-j.j)
