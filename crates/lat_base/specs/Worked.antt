-- Small styles and ballots whose totals are worked out by hand.
use Rattle.std.specs.Prelude.{ℕ, Bool, true, false, List, [], ◌∷◌}
use Rattle.lat_base.specs.declared.contest.Contest.{Contest}

-- two contests of two targets, one vote in each
abbrev pub two_contests : List Contest
two_contests = record { limit = 1; targets = 2 } ∷ record { limit = 1; targets = 2 } ∷ []

-- one contest of two targets and two votes
abbrev pub one_contest : List Contest
one_contest = record { limit = 2; targets = 2 } ∷ []

-- the first target of the first contest and the second of the second
abbrev pub first_and_last : List Bool
first_and_last = true ∷ false ∷ false ∷ true ∷ []

-- both targets of the first contest and the second of the second
abbrev pub both_and_last : List Bool
both_and_last = true ∷ true ∷ false ∷ true ∷ []

-- the exchange of the second targets of both contests
abbrev pub seconds_exchanged : List ℕ
seconds_exchanged = 0 ∷ 3 ∷ 2 ∷ 1 ∷ []
