-- Files as they are stored in memory, the newest first.
use Rattle.std.specs.Prelude.{ℕ, List, [], drop, map, Option, Some, None, slice_get, option_map, unwrap_or, string_bytes}
use Rattle.std.specs.FinMap.{from_entries}
use Rattle.lat_shelf.specs.declared.stored.Stored.{Stored}
use Rattle.lat_shelf.specs.Shelf.{Files}

-- the name and the bytes of what is stored
abbrev pub entry : Stored → List ℕ × List ℕ
entry file = (string_bytes file.name, file.bytes.items)

-- the newest of each name counts, and it stands first
abbrev pub files_of : List Stored → Files
files_of stored = from_entries (map entry stored)

-- what is left of the open file after so many bytes
abbrev pub left_of : List Stored → Option ℕ → ℕ → List ℕ
left_of stored None at = []
left_of stored (Some place) at = unwrap_or (option_map
    (λ file. drop at file.bytes.items) (slice_get stored place)) []
