use Rattle.std.proofs.Common.{ℕ, sym, subst}
use Rattle.deck_text.specs.DeckRead.{IsMarkOf}
use Rattle.deck_text.proofs.RowCounts.{row_more}
use Rattle.deck_text.proofs.read_deck.add_row.Goals as goal

pub returns-clause-rows : goal.returns-clause-rows
returns-clause-rows c =
    let mark = c.in-Some-mark_called.mark in
    row_more c.args.draft.now c.in-Some.number mark c.add.new.self c.ballots.ensures.deck
    c.in-Some.ensures.range.0
    (subst (λ (n : ℕ). IsMarkOf n mark) (sym c.requires.targets) c.in-Some-mark_called.ensures.range)
    c.if-not-add.ensures.added
