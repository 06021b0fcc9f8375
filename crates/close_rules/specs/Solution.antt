-- The decks that a search for small decks looks for in a partial deck.
use Rattle.std.specs.Prelude.{Bool, List}
use Rattle.lat_base.specs.Canonical.{IsCanonical}
use Rattle.lat_base.specs.Goodness.{IsGood}
use Rattle.deck_state.specs.Completion.{IsCompletion}
use Rattle.deck_state.specs.PartialDeck.{PartialDeck}

-- a good canonical deck that the partial deck can become
pub record IsSolution (p : PartialDeck) (deck : List (List Bool)) : Type 0 where
  pub good : IsGood p.contests p.rules deck
  pub canonical : IsCanonical p.contests deck
  pub completion : IsCompletion p deck
