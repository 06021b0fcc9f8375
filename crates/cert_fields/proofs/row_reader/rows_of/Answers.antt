use Rattle.std.proofs.Common.{◌≡◌, ◌∙◌, ◌<◌, ◌++◌, ◌∷◌, [], ap, subst, ◌+◌, Some, ℕ, length, take, set, List, Bool, arith}
use Rattle.std.proofs.lemmas.List.{take_more_set, length-set}
use Rattle.lat_base.specs.Shape.{target_count}
use Rattle.lat_ballots.specs.Deck.{Ballots, ballot_at}
use Rattle.cert_fields.proofs.Loop.{goes_on}
use Rattle.cert_fields.specs.Rows.{row_at, rows_at}
use Rattle.cert_fields.proofs.row_reader.rows_of.Goals as goal

pub loop-j-preserved : goal.loop-j-preserved
loop-j-preserved c =
    let T = target_count c.args.shape.now in
    let inv = c.loop-j.invariant in
    let deck = c.row_of.ensures.deck in
    let ballot = ballot_at c.row_of.new.deck c.loop-j.j in
    let bs : c.row_of.new.deck.ballots ≡ set c.loop-j.deck.ballots c.loop-j.j ballot = ap (λ (d : Ballots). d.ballots) deck in
    let within : c.loop-j.j < length c.loop-j.deck.ballots = omega (arith, inv.count, c.loop-j-test.true) in
    let front : take (c.loop-j.j + 1) c.row_of.new.deck.ballots ≡ take c.loop-j.j c.loop-j.deck.ballots ++ ballot ∷ [] = ap (take (c.loop-j.j + 1)) bs ∙ take_more_set c.loop-j.deck.ballots c.loop-j.j ballot within in
    let read : row_at T c.loop-j.rest.now ≡ Some (ballot, c.in_ok-rest.rest.now) = subst (λ (t : ℕ). row_at t c.loop-j.rest.now ≡ Some (ballot, c.in_ok-rest.rest.now)) inv.targets c.in_ok-rest.ensures.read in
    record {
      targets = ap (λ (d : Ballots). d.targets) deck ∙ inv.targets;
      count = ap (λ (l : List (List Bool)). length l) bs ∙ length-set c.loop-j.deck.ballots c.loop-j.j ballot ∙ inv.count;
      left = rw front (goes_on (row_at T) (take c.loop-j.j c.loop-j.deck.ballots) c.args.k c.loop-j.j c.loop-j.rest.now (rows_at T c.args.k c.args.bytes.now) ballot c.in_ok-rest.rest.now c.loop-j-test.true read inv.left);
    }
