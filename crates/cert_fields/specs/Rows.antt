-- Ballots as rows of bytes.
use Rattle.std.specs.Prelude.{◌≡◌, ℕ, ◌+◌, ◌-◌, ◌*◌, ◌/◌, ◌%◌, ◌==◌, Bool, false}
use Rattle.std.specs.Prelude.{cond, List, length, map, get_or, Option}
use Rattle.std.specs.List.{range_with_len, flat_map, AllByRecursion}
use Rattle.std.specs.Int.{bit_at}
use Rattle.std.specs.Str.{bytes_eq}
use Rattle.lat_ballots.specs.Deck.{Ballots}
use Rattle.cert_fields.specs.Reading.{bytes_at, made_at, tested_at, many_at}

-- what the mark of a target counts in its byte's lowest bit; a target past the last has none
abbrev pub worth : List Bool → ℕ → ℕ
worth ballot t = cond (get_or ballot t false) 1 0

-- eight marks from target t on as one byte, the first in the highest bit
abbrev pub byte_text : List Bool → ℕ → ℕ
byte_text ballot t =
    worth ballot t * 128 + worth ballot (t + 1) * 64 + worth ballot (t + 2) * 32
    + worth ballot (t + 3) * 16 + worth ballot (t + 4) * 8 + worth ballot (t + 5) * 4
    + worth ballot (t + 6) * 2 + worth ballot (t + 7)

-- how many bytes the marks of so many targets take
abbrev pub row_size : ℕ → ℕ
row_size targets = (targets + 7) / 8

abbrev pub row_text : List Bool → List ℕ
row_text ballot = map (λ i. byte_text ballot (8 * i)) (range_with_len 0 (row_size (length ballot)))

abbrev pub rows_text : List (List Bool) → List ℕ
rows_text ballots = flat_map row_text ballots

-- so many ballots of so many targets
pub record AreBallots (targets k : ℕ) (ballots : List (List Bool)) : Type 0 where
  pub count : length ballots ≡ k
  pub each : AllByRecursion (λ ballot. length ballot ≡ targets) ballots

-- a deck of so many ballots of so many targets
pub record IsDeckOf (targets k : ℕ) (deck : Ballots) : Type 0 where
  pub width : deck.targets ≡ targets
  pub ballots : AreBallots targets k deck.ballots

abbrev pub deck_text : Ballots → List ℕ
deck_text deck = rows_text deck.ballots

-- how rows are read

abbrev pub is_bit : List ℕ → ℕ → Bool
is_bit bytes t = bit_at (get_or bytes (t / 8) 0) (7 - t % 8) == 1

abbrev pub marks_of : ℕ → List ℕ → List Bool
marks_of targets bytes = map (is_bit bytes) (range_with_len 0 targets)

-- the marks of so many bytes, of which those are the spelling
unfoldable pub row_at : ℕ → List ℕ → Option (List Bool × List ℕ)
row_at targets bytes =
    made_at (marks_of targets)
    (tested_at (λ b. bytes_eq (row_text (marks_of targets b)) b)
    (bytes_at (row_size targets))) bytes

abbrev pub rows_at : ℕ → ℕ → List ℕ → Option (List (List Bool) × List ℕ)
rows_at targets k bytes = many_at (row_at targets) k bytes
