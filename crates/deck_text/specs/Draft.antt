-- A deck of which only the first ballots are in use.
use Rattle.std.specs.Prelude.{◌≡◌, ◌<◌, ◌≤◌, ℕ, false, [], length, take, get_or, replicate}
use Rattle.lat_ballots.specs.Deck.{Ballots, IsDeck}

-- the deck of the ballots in use
abbrev pub front_of : ℕ → Ballots → Ballots
front_of ballots whole = record whole { ballots = take ballots whole.ballots }

-- 1,024 ballots, of which the first so many are in use and the others are blank
pub record IsDraft (ballots : ℕ) (whole : Ballots) : Type 0 where
  pub deck : IsDeck whole
  pub used : ballots ≤ 1024
  pub most : length whole.ballots ≡ 1024
  pub blank : (j : ℕ) → ballots ≤ j → j < length whole.ballots
      → get_or whole.ballots j [] ≡ replicate whole.targets false
