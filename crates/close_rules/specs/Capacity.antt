-- How many votes a contest can have in all.
use Rattle.std.specs.Prelude.{ℕ, ◌&&◌, Bool, nat_lt, nat_le, if◌then◌else◌, min, List, [], ◌∷◌, length, map, take}
use Rattle.std.specs.List.{sum}
use Rattle.lat_base.specs.declared.contest.Contest.{Contest}
use Rattle.lat_base.specs.Shape.{contest_at}
use Rattle.deck_state.specs.declared.mark.Mark.{Mark}
use Rattle.deck_state.specs.PartialDeck.{PartialDeck}
use Rattle.deck_state.specs.Votes.{marked_in, possible_in}
use Rattle.close_rules.specs.Totals.{least_totals, most_voting}

-- how many votes a row can give in contest c: none where it is overvoted, else at most the limit,
-- for targets that are marked or undecided
abbrev pub most_votes : List Contest → ℕ → List Mark → ℕ
most_votes contests c row =
    if nat_lt (contest_at contests c).limit (marked_in contests row c) then 0
    else min (contest_at contests c).limit (possible_in contests row c)

-- a number put into a falling list
abbrev pub put_falling : ℕ → List ℕ → List ℕ
put_falling n [] = n ∷ []
put_falling n (first ∷ rest) = if nat_le first n then n ∷ first ∷ rest else first
    ∷ put_falling n rest

-- the numbers in falling order
abbrev pub falling : List ℕ → List ℕ
falling [] = []
falling (n ∷ numbers) = put_falling n (falling numbers)

-- the sum of the so many largest numbers
abbrev pub sum_of_largest : ℕ → List ℕ → ℕ
sum_of_largest count numbers = sum (take count (falling numbers))

-- how many votes contest c can have in all
abbrev pub capacity : PartialDeck → ℕ → ℕ
capacity p c = sum_of_largest (most_voting p c) (map (most_votes p.contests c) p.marks)

-- whether the least totals of contest c are more votes than it can have
abbrev pub has_no_capacity : PartialDeck → ℕ → Bool
has_no_capacity p c = nat_lt c (length p.contests) && nat_lt (capacity p c) (sum (least_totals p c))
