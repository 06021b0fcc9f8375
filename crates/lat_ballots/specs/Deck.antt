-- A test deck, as contracts see it.
use Rattle.std.specs.Prelude.{◌≡◌, ◌≤◌, ℕ, Bool, List, length, map, take, All, get_or, slice_set, replicate, false, []}
use Rattle.lat_base.specs.declared.limits.TheConstants.{MOST_BALLOTS, MOST_TARGETS}
use Rattle.lat_base.specs.Deck.{Fits}

-- a number of targets, and ballots with a mark or none for each
pub record Ballots : Type 0 where
  pub targets : ℕ
  pub ballots : List (List Bool)

-- the limits on a deck
pub record IsDeck (deck : Ballots) : Type 0 where
  pub fits : Fits deck.targets deck.ballots
  pub few : length deck.ballots ≤ MOST_BALLOTS
  pub few_targets : deck.targets ≤ MOST_TARGETS

-- ballot number j
abbrev pub ballot_at : Ballots → ℕ → List Bool
ballot_at deck j = get_or deck.ballots j []

-- whether ballot j marks target t
abbrev pub mark_at : Ballots → ℕ → ℕ → Bool
mark_at deck j t = get_or (ballot_at deck j) t false

-- the deck with that one mark set so
abbrev pub with_mark : Ballots → ℕ → ℕ → Bool → Ballots
with_mark deck j t on =
    record deck { ballots = slice_set deck.ballots j (slice_set (ballot_at deck j) t on) }

-- k ballots with no mark
abbrev pub blank_ballots : ℕ → ℕ → Ballots
blank_ballots targets k =
    record { targets = targets; ballots = replicate k (replicate targets false) }

-- the ballots of rows of 256 bits: the bits up to the number of targets
abbrev pub ballots_of : ℕ → List (List Bool) → Ballots
ballots_of targets rows = record { targets = targets; ballots = map (take targets) rows }

-- the rows that a deck keeps, of 256 bits each
pub record AreRows (targets : ℕ) (rows : List (List Bool)) : Type 0 where
  pub long : All (λ row. length row ≡ 256) rows
  pub few : length rows ≤ MOST_BALLOTS
  pub few_targets : targets ≤ MOST_TARGETS
