-- How many rows a table has below its header.
use Rattle.std.specs.Prelude.{ℕ, Bool, List, max, sum_by, count_by, is_some, Option}

-- the rows of a ballot: one for each mark, or one where there is none
abbrev pub ballot_rows : List Bool → ℕ
ballot_rows ballot = max 1 (count_by (λ mark. mark) ballot)

-- the rows of a deck's ballots
abbrev pub deck_rows : List (List Bool) → ℕ
deck_rows ballots = sum_by ballot_rows ballots

-- the rows of the totals that are there
abbrev pub total_rows : List (Option ℕ) → ℕ
total_rows totals = count_by is_some totals
