-- The file of a test deck: its ballots, numbered from 1, with a row for each mark.
use Rattle.std.specs.Prelude.{ℕ, ◌+◌, ◌++◌, Bool, List, [], length, get_or, codes, if◌then◌else◌}
use Rattle.std.specs.List.{flat_map, range_with_len}
use Rattle.std.specs.Fmt.{decimal}
use Rattle.lat_base.specs.declared.contest_names.ContestNames.{ContestNames}
use Rattle.lat_base.specs.Tally.{is_marked}
use Rattle.lat_base.specs.Rules.{is_blank}
use Rattle.deck_text.specs.Line.{line}
use Rattle.deck_text.specs.TargetNames.{FullName, target_names, name_at}

-- the header of a deck's file
abbrev pub deck_header : List ℕ
deck_header = codes "ballot,contest,target\n"

-- the row of a ballot's mark at target t, where there is one
abbrev pub mark_line : List FullName → List ℕ → List Bool → ℕ → List ℕ
mark_line names number ballot t =
    if is_marked ballot t then line number (name_at names t).contest (name_at names t).target
    else []

-- the rows of a ballot: one for each marked target, in target order, or one row without names
-- where nothing is marked
abbrev pub ballot_lines : List FullName → List ℕ → List Bool → List ℕ
ballot_lines names number ballot =
    if is_blank ballot then line number [] []
    else flat_map (mark_line names number ballot) (range_with_len 0 (length names))

-- the rows of ballot j of a deck, which has the number j + 1
abbrev pub numbered_lines : List FullName → List (List Bool) → ℕ → List ℕ
numbered_lines names deck j = ballot_lines names (decimal (j + 1)) (get_or deck j [])

-- the text of a deck's file
abbrev pub deck_text : List ContestNames → List (List Bool) → List ℕ
deck_text contests deck = deck_header
    ++ flat_map (numbered_lines (target_names contests) deck) (range_with_len 0 (length deck))
