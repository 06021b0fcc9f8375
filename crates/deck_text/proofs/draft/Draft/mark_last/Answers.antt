use Rattle.std.proofs.Common.{◌<◌, length, ap, ◌∙◌, arith}
use Rattle.lat_ballots.specs.Deck.{Ballots}
use Rattle.deck_text.specs.Draft.{front_of}
use Rattle.deck_text.specs.DeckRead.{with_last_mark}
use Rattle.deck_text.proofs.DraftFacts.{front_long, marked}
use Rattle.deck_text.proofs.draft.Draft.mark_last.Goals as goal

pub returns : goal.returns
returns c =
    let a = c.self.inside in
    let some : 0 < a.ballots = omega (arith, front_long a.ballots a.whole c.self.invariant, ap (λ (d : Ballots). length d.ballots) c.self.view_is, c.requires.ballot) in
    ap (front_of a.ballots) c.set.ensures
    ∙ marked a.ballots a.whole c.args.t c.self.invariant some
    ∙ ap (λ (d : Ballots). with_last_mark d c.args.t) c.self.view_is
