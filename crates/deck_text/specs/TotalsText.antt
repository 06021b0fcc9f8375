-- The file of a deck's totals: a row for each target of the style.
use Rattle.std.specs.Prelude.{ℕ, ◌++◌, Bool, List, codes}
use Rattle.std.specs.List.{flat_map, range_with_len}
use Rattle.std.specs.Fmt.{decimal}
use Rattle.lat_base.specs.declared.contest.Contest.{Contest}
use Rattle.lat_base.specs.declared.contest_names.ContestNames.{ContestNames}
use Rattle.lat_base.specs.Shape.{target_count}
use Rattle.lat_base.specs.Tally.{own_total}
use Rattle.deck_text.specs.Line.{line}
use Rattle.deck_text.specs.TargetNames.{FullName, target_names, name_at}

-- the header of a file of totals, and of a report
abbrev pub totals_header : List ℕ
totals_header = codes "contest,target,total\n"

-- the row of target t: its name, and its total where each target counts for itself
abbrev pub total_line : List Contest → List FullName → List (List Bool) → ℕ → List ℕ
total_line contests names deck t =
    line (name_at names t).contest (name_at names t).target (decimal (own_total contests deck t))

-- the text of the file of a deck's totals, in target order
abbrev pub totals_text : List Contest → List ContestNames → List (List Bool) → List ℕ
totals_text contests names deck =
    totals_header ++ flat_map (total_line contests (target_names names) deck)
    (range_with_len 0 (target_count contests))
