-- A row of 256 bits in four words of 64: the marks of one ballot, or a set of targets.
use Rattle.std.specs.Prelude.{◌==◌, ◌/◌, ◌%◌, ◌-◌, ◌++◌, ◌&&◌, ℕ, Bool, false, List, length, map, get_or, count_by, replicate}
use Rattle.std.specs.List.{range_with_len}
use Rattle.std.specs.Int.{bit_at}
use Rattle.lat_base.specs.Tally.{reading}

-- whether bit t is set: bit t of the row is bit t % 64 of word t / 64
abbrev pub is_set : List ℕ → ℕ → Bool
is_set words t = bit_at (get_or words (t / 64) 0) (t % 64) == 1

-- the row's 256 bits, from bit 0 on
abbrev pub bits_of : List ℕ → List Bool
bits_of words = map (is_set words) (range_with_len 0 256)

-- whether t is in both rows
abbrev pub is_common : List Bool → List Bool → ℕ → Bool
is_common row other t = get_or row t false && get_or other t false

-- how many places of a row are also in another
abbrev pub common_count : List Bool → List Bool → ℕ
common_count row other = count_by (is_common row other) (range_with_len 0 (length row))

-- a row as it is read: at u the bit of source number u, and no bit past the last source
abbrev pub row_reading : List Bool → List ℕ → List Bool
row_reading row sources = reading row sources ++ replicate (256 - length sources) false
