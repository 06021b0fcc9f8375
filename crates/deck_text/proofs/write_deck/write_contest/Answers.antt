use Rattle.std.proofs.Common.{List, ℕ, ◌<◌, ◌≡◌, ◌+◌, ◌++◌, [], length, get_or, if◌then◌else◌, drop, ap, sym, ◌∙◌, arith}
use Rattle.std.proofs.lemmas.List.{get_or_default}
use Rattle.lat_ballots.specs.Deck.{ballot_at, mark_at}
use Rattle.deck_text.specs.Line.{line}
use Rattle.deck_text.specs.TargetNames.{names_in}
use Rattle.deck_text.specs.DeckText.{mark_line}
use Rattle.deck_text.proofs.ContestLines.{target_line}
use Rattle.deck_text.proofs.Ranges.{lines_more}
use Rattle.deck_text.proofs.write_deck.write_contest.Goals as goal

pub loop-i-preserved : goal.loop-i-preserved
loop-i-preserved c =
    let contest = c.args.contest.now in
    let number = c.args.number.now in
    let ballot = ballot_at c.args.deck.now c.args.j in
    let lines = mark_line (names_in contest) number (drop c.args.first ballot) in
    let low : c.loop-i.i < length contest.targets = omega (arith, c.loop-i-test.true, ap length c.as_slice-target-items.ensures) in
    let here = target_line contest number ballot c.args.first c.loop-i.i low in
    let id : c.target-item.result ≡ get_or contest.targets c.loop-i.i [] =
    c.target-item.is
    ∙ ap (λ (ids : List (List ℕ)). get_or ids c.loop-i.i c.target-item.result) c.as_slice-target-items.ensures
    ∙ get_or_default contest.targets c.loop-i.i c.target-item.result [] low in
    c.in_ok-table.ensures
    ∙ ap (λ (name : List ℕ). c.loop-i.table ++ (if mark_at c.args.deck.now c.args.j (c.args.first + c.loop-i.i) then line number contest.id name else [])) id
    ∙ ap (λ (more : List ℕ). c.loop-i.table ++ more) (sym here)
    ∙ ap (λ (text : List ℕ). text ++ lines c.loop-i.i) c.loop-i.invariant
    ∙ sym (lines_more lines c.args.table c.loop-i.i)
