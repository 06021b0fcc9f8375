-- How many lists of totals there are for the contests of one shape.
use Rattle.std.specs.Prelude.{ℕ, zero, suc, ◌+◌, ◌-◌, ◌*◌, ◌&&◌, ◌++◌, Bool, nat_lt, nat_le, List, [], ◌∷◌, length, map, count_by}
use Rattle.std.specs.List.{range_with_len, sum, filter}
use Rattle.lat_base.specs.Shape.{contest_at}
use Rattle.deck_state.specs.PartialDeck.{PartialDeck}
use Rattle.close_rules.specs.Fixed.{has_shape_of}
use Rattle.close_rules.specs.Totals.{most_voting}

-- each way to choose n of the numbers, in their order
abbrev pub choices : ℕ → List ℕ → List (List ℕ)
choices zero numbers = [] ∷ []
choices (suc n) [] = []
choices (suc n) (first ∷ rest) =
    map (λ chosen. first ∷ chosen) (choices n rest) ++ choices (suc n) rest

-- the strictly rising lists of n numbers among so many from `least` on, with a sum of at most
-- `room`
abbrev pub rising_lists : (n least many room : ℕ) → List (List ℕ)
rising_lists n least many room =
    filter (λ totals. nat_le (sum totals) room) (choices n (range_with_len least many))

-- the lists of totals that contests of the shape of c can have: strictly rising, from the least
-- total of the rules to the number of ballots that can vote, with a sum of at most all votes
abbrev pub lists_of_totals : PartialDeck → ℕ → List (List ℕ)
lists_of_totals p c =
    let contest = contest_at p.contests c in
    let most = most_voting p c in
    let many = most + 1 - p.rules.least in
    rising_lists contest.targets p.rules.least many (contest.limit * most)

-- how many contests have the limit and number of targets of c
abbrev pub alike_count : PartialDeck → ℕ → ℕ
alike_count p c = count_by (has_shape_of (contest_at p.contests c)) p.contests

-- whether there are more contests of the shape of c than lists of totals for them
abbrev pub has_few_lists : PartialDeck → ℕ → Bool
has_few_lists p c =
    nat_lt c (length p.contests) && nat_lt (length (lists_of_totals p c)) (alike_count p c)
