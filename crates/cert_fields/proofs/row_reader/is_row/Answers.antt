use Rattle.std.proofs.lemmas.Bool.{false≢true}
use Rattle.std.proofs.Common.{refl, [], ◌≡◌, ◌<◌, ◌*◌, ◌∙◌, ap, sym, ℕ, length, get_or, arith, List}
use borrow.Author.Count.{below_more}
use Rattle.lat_ballots.specs.Deck.{ballot_at}
use Rattle.cert_fields.specs.Rows.{byte_text, row_size}
use Rattle.cert_fields.proofs.Marks.{row_byte, row_from_bytes}
use Rattle.cert_fields.proofs.row_reader.is_row.Goals as goal

pub returns-then-byte_of-bytes : goal.returns-then-byte_of-bytes
returns-then-byte_of-bytes c =
    let ballot = ballot_at c.args.deck.now c.args.j in
    let long : length ballot ≡ c.args.deck.now.targets = c.targets.ensures.deck.fits c.args.j [] c.requires.ballot in
    let place : c.loop-i.i < row_size (length ballot) = rw long (omega (arith, c.row_size-size.ensures, c.targets.ensures.count)) in
    (λ f. absurd (false≢true f), λ e. absurd (c.if-byte_of-bytes.true (c.byte_of.ensures ∙ sym (row_byte ballot c.loop-i.i place) ∙ ap (λ (b : List ℕ). get_or b c.loop-i.i 0) e)))

pub loop-i-preserved : goal.loop-i-preserved
loop-i-preserved c =
    below_more (λ (k : ℕ). byte_text (ballot_at c.args.deck.now c.args.j) (8 * k) ≡ get_or c.args.bytes.now k 0) c.loop-i.i c.loop-i.invariant (sym c.byte_of.ensures ∙ c.if-byte_of-bytes.false)

pub returns : goal.returns
returns c =
    let ballot = ballot_at c.args.deck.now c.args.j in
    let long : length ballot ≡ c.args.deck.now.targets = c.targets.ensures.deck.fits c.args.j [] c.requires.ballot in
    (λ _. row_from_bytes ballot c.args.bytes.now (rw long c.requires.size) (λ k h. c.loop-i.invariant k (omega (arith, c.row_size-size.ensures, c.targets.ensures.count, c.requires.size, c.loop-i-test.false))), λ _. refl)
