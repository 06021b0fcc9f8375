use Rattle.std.proofs.Common.{◌<◌, length, ap, ◌∙◌, arith}
use Rattle.lat_ballots.specs.Deck.{Ballots}
use Rattle.deck_text.specs.DeckRead.{with_blank}
use Rattle.deck_text.proofs.DraftFacts.{front_long, begun}
use Rattle.deck_text.proofs.draft.Draft.begin.Goals as goal

pub returns : goal.returns
returns c =
    let a = c.self.inside in
    let low : a.ballots < 1024 = omega (arith, front_long a.ballots a.whole c.self.invariant, ap (λ (d : Ballots). length d.ballots) c.self.view_is, c.requires) in
    begun a.ballots a.whole c.self.invariant low ∙ ap with_blank c.self.view_is
