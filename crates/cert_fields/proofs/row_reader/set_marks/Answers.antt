use Rattle.std.proofs.Common.{◌≡◌, ◌<◌, ◌≤◌, ◌++◌, [], ◌∙◌, ap, sym, length, get_or, take, drop, set, List, Bool, false, arith}
use Rattle.std.proofs.lemmas.List.FromFn.{length-map-range_with_len, get_or-map-range_with_len}
use Rattle.lat_ballots.specs.Deck.{Ballots, ballot_at, with_mark}
use Rattle.cert_fields.specs.Rows.{is_bit, marks_of}
use Rattle.cert_fields.proofs.Marks.{deck_mark_more, set_mark_all}
use Rattle.cert_fields.proofs.row_reader.set_marks.Goals as goal

pub loop-t-preserved : goal.loop-t-preserved
loop-t-preserved c =
    let deck = c.args.deck.now in
    let j = c.args.j in
    let t = c.loop-t.t in
    let bytes = c.args.bytes.now in
    let marks = marks_of deck.targets bytes in
    let old = ballot_at deck j in
    let lt : t < deck.targets = omega (arith, c.targets-t-end.ensures.count, c.loop-t-test.true) in
    let long : length marks ≡ deck.targets = length-map-range_with_len (is_bit bytes) 0 deck.targets in
    let row_long : length old ≡ deck.targets = c.targets-t-end.ensures.deck.fits j [] c.requires.ballot in
    let mark : get_or marks t false ≡ is_bit bytes t = get_or-map-range_with_len (is_bit bytes) 0 deck.targets t t false lt (omega arith) in
    c.set.ensures ∙ ap (λ (d : Ballots). with_mark d j t c.is_bit.result) c.loop-t.invariant
    ∙ ap (λ (on : Bool). with_mark (record { targets = deck.targets; ballots = set deck.ballots j (take t marks ++ drop t old) }) j t on) (c.is_bit.ensures ∙ sym mark)
    ∙ ap (λ (bs : List (List Bool)). record { targets = deck.targets; ballots = bs }) (deck_mark_more deck.ballots j marks old t c.requires.ballot (omega arith) (row_long ∙ sym long))

pub returns : goal.returns
returns c =
    let deck = c.args.deck.now in
    let bytes = c.args.bytes.now in
    let marks = marks_of deck.targets bytes in
    let old = ballot_at deck c.args.j in
    let ge : deck.targets ≤ c.loop-t.t = omega (arith, c.targets-t-end.ensures.count, c.loop-t-test.false) in
    let long : length marks ≡ deck.targets = length-map-range_with_len (is_bit bytes) 0 deck.targets in
    let row_long : length old ≡ deck.targets = c.targets-t-end.ensures.deck.fits c.args.j [] c.requires.ballot in
    c.loop-t.invariant ∙ ap (λ (r : List Bool). record { targets = deck.targets; ballots = set deck.ballots c.args.j r }) (set_mark_all marks old c.loop-t.t (omega arith) (omega arith))
