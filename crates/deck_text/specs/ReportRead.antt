-- Reading a report: the total of each target, or the first row with a fault, or the first target
-- without a row.
use Rattle.std.specs.Prelude.{ℕ, ◌+◌, ◌-◌, ◌^◌, ◌==◌, List, [], ◌∷◌, length, map, replicate, get_or, slice_set, codes, is_some, is_none, unwrap_or, position, if◌then◌else◌, Option, Some, None, Result, Ok, Err}
use Rattle.lat_base.specs.declared.contest.Contest.{Contest}
use Rattle.lat_base.specs.declared.contest_names.ContestNames.{ContestNames}
use Rattle.lat_base.specs.Shape.{target_count}
use Rattle.numerals.specs.Numerals.{number_of}
use Rattle.deck_text.specs.declared.fault.CsvFault.{CsvFault}
use Rattle.deck_text.specs.declared.fault.CsvFault.TheVariants.{NotCsv, BadNumber, UnknownTarget, Repeated, Missing}
use Rattle.lat_base.specs.FirstFault.{◌>>=◌, or_fault}
use Rattle.deck_text.specs.Rows.{field_of, after_header}
use Rattle.deck_text.specs.TargetNames.{FullName, target_names, target_called}

-- the header's fields
abbrev pub report_fields : List (List ℕ)
report_fields = codes "contest" ∷ codes "target" ∷ codes "total" ∷ []

-- the totals with one more, where the target had no row before
abbrev pub with_total : List (Option ℕ) → ℕ → ℕ → Option (List (Option ℕ))
with_total totals t n =
    if is_some (get_or totals t None) then None else Some (slice_set totals t (Some n))

-- the totals after one more row; a total is at most 4,294,967,295
abbrev pub report_row : List FullName → ℕ → List (Option ℕ) → List (List ℕ)
    → Result (List (Option ℕ)) CsvFault
report_row names row totals fields = do
  n ← or_fault (number_of 0 (2 ^ 32 - 1) (field_of fields 2)) (BadNumber row)
  t ← or_fault (target_called names (field_of fields 0) (field_of fields 1)) (UnknownTarget row)
  or_fault (with_total totals t n) (Repeated row)

-- the totals after these rows, the first of which has this number
abbrev pub report_from : List FullName → ℕ → List (Option ℕ) → List (List (List ℕ))
    → Result (List (Option ℕ)) CsvFault
report_from names row totals [] = Ok totals
report_from names row totals (fields ∷ rows) =
    if length fields == 3 then report_row names row totals fields >>=
    (λ more. report_from names (row + 1) more rows)
    else Err (NotCsv row)

-- these totals, unless this target has none
abbrev pub unless_missing : Option ℕ → List ℕ → Result (List ℕ) CsvFault
unless_missing None totals = Ok totals
unless_missing (Some t) totals = Err (Missing t)

-- the totals where each target has one, or the first target with none
abbrev pub whole_report : List (Option ℕ) → Result (List ℕ) CsvFault
whole_report totals = unless_missing (position is_none totals) (map
    (λ total. unwrap_or total 0) totals)

-- the totals of a file's records, in target order
abbrev pub report_read : List Contest → List ContestNames → List (List (List ℕ))
    → Result (List ℕ) CsvFault
report_read contests names records = do
  rows ← after_header report_fields records
  totals ← report_from (target_names names) 2 (replicate (target_count contests) None) rows
  whole_report totals
