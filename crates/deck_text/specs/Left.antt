-- The records that a reader has left.
use Rattle.std.specs.Prelude.{◌≡◌, ℕ, ◌+◌, false, true, List, [], length, Some, IsSome, unwrap_or}
use Rattle.std.specs.Borrow.{Bor}
use Rattle.csv.specs.Machine.{ends_at_end}
use Rattle.csv.specs.Reading.{default_config, records_from, source_of, reader_config, reader_trim}
use Rattle.csv.specs.Reading.{is_flexible, took_first, expected_len, reader_state}
use Rattle.csv.specs.declared.parser.State.{State}
use Rattle.csv.specs.declared.reader.Reader.{Reader}
use Rattle.csv.specs.declared.reader.Trim.TheVariants as trim

-- the records of these bytes, read on from a state
abbrev pub left_of : State → List ℕ → List (List (List ℕ))
left_of s bytes = records_from default_config (length bytes + 1) s bytes

-- the records that a reader of bytes in memory has left
abbrev pub left_in : Reader (Bor (List ℕ)) → List (List (List ℕ))
left_in reader = left_of (reader_state reader) (unwrap_or (source_of (λ s. Some s.now) reader) [])

-- a reader with csv's default settings that has read a record of three fields, and can read on
abbrev pub IsOpen : Reader (Bor (List ℕ)) → Type 0
IsOpen reader =
    (reader_config reader ≡ default_config) × (reader_trim reader ≡ trim.None)
    × (is_flexible reader ≡ false) × (took_first reader ≡ true) × (expected_len reader ≡ Some 3)
    × (ends_at_end (reader_state reader) ≡ false)
    × IsSome (source_of (λ (s : Bor (List ℕ)). Some s.now) reader)
