use Rattle.std.proofs.Common.{◌≢◌, ◌++◌, ◌∷◌, [], List, ℕ, ap, ◌∙◌}
use Rattle.csv.specs.Writing.{row_text}
use Rattle.csv.specs.declared.writer.QuoteStyle.TheVariants as style
use Rattle.deck_text.proofs.PlainRows.{row_line}
use Rattle.deck_text.proofs.table.Table.row.Goals as goal

pub returns-in-Ok : goal.returns-in-Ok
returns-in-Ok c =
    let (setup, none, clean) = c.self.invariant in
    let plain : c.self.inside.writer.cfg.style ≢ style.NonNumeric = rw setup (λ e. cc e) in
    let fields = c.args.first.now ∷ c.args.second.now ∷ c.args.third.now ∷ [] in
    c.in-Ok.ensures.bytes none clean plain
    ∙ (λ i. (c.self.view_is i) ++ row_text (setup i) fields)
    ∙ ap (λ (row : List ℕ). c.args.self ++ row) (row_line c.args.first.now c.args.second.now c.args.third.now c.requires.first c.requires.second c.requires.third)
