-- The records of a table, as csv reads them where no row is taken as headers.
use Rattle.std.specs.Prelude.{ℕ, List, [], ◌∷◌, get_or, if◌then◌else◌, Result, Ok, Err}
use Rattle.std.specs.Str.{bytes_eq}
use Rattle.std.specs.Cmp.Lexicographic.{pointwise}
use Rattle.csv.specs.Reading.{default_config, records, strip_bom}
use Rattle.deck_text.specs.declared.fault.CsvFault.{CsvFault}
use Rattle.deck_text.specs.declared.fault.CsvFault.TheVariants.{NotCsv}

-- all records of a file, with csv's default settings: commas, quotes, and no byte order mark at
-- the start
abbrev pub file_records : List ℕ → List (List (List ℕ))
file_records bytes = records default_config (strip_bom bytes)

-- field i of a record
abbrev pub field_of : List (List ℕ) → ℕ → List ℕ
field_of fields i = get_or fields i []

-- the records after the header, which is row 1
abbrev pub after_header : List (List ℕ) → List (List (List ℕ))
    → Result (List (List (List ℕ))) CsvFault
after_header header [] = Err (NotCsv 1)
after_header header (fields
    ∷ rows) = if pointwise bytes_eq fields header then Ok rows else Err (NotCsv 1)
