use Rattle.std.proofs.Common.{◌∙◌, ap, ◌++◌, ◌∷◌, [], ℕ}
use Rattle.lat_ballots.specs.Deck.{ballot_at}
use Rattle.cert_fields.proofs.Marks.{bytes_more}
use Rattle.cert_fields.proofs.row_writer.put_row.Goals as goal

pub loop-i-preserved : goal.loop-i-preserved
loop-i-preserved c =
    c.in_ok-push.ensures.items ∙ ap (λ (b : ℕ). c.loop-i.out.items ++ b ∷ []) c.byte_of.ensures
    ∙ bytes_more c.args.out.now.items c.loop-i.out.items (ballot_at c.args.deck.now c.args.j) c.loop-i.i c.loop-i.invariant
