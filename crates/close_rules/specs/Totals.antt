-- What the totals of a contest must be at least and can be at most in a good canonical deck.
use Rattle.std.specs.Prelude.{ℕ, ◌+◌, ◌-◌, ◌||◌, ◌&&◌, Bool, false, nat_lt, if◌then◌else◌, max, List, [], ◌∷◌, length, map}
use Rattle.lat_base.specs.declared.contest.Contest.{Contest}
use Rattle.lat_base.specs.Shape.{contest_at}
use Rattle.readings.specs.Structural.{targets_of}
use Rattle.deck_state.specs.PartialDeck.{PartialDeck}
use Rattle.deck_state.specs.Votes.{hi}
use Rattle.close_rules.specs.Fixed.{lows}

-- the least strictly rising list from a number on, with each entry at least the one that is given
-- for it
abbrev pub least_rising : ℕ → List ℕ → List ℕ
least_rising from [] = []
least_rising from (low ∷ lows) = max from low ∷ least_rising (max from low + 1) lows

-- the least totals that contest c can have: strictly rising, from the least total of the rules on
abbrev pub least_totals : PartialDeck → ℕ → List ℕ
least_totals p c = least_rising p.rules.least (lows p c)

-- the greatest totals of the targets of contest c as far as is known
abbrev pub highs : PartialDeck → ℕ → List ℕ
highs p c = map (hi p) (targets_of p.contests c)

-- whether a contest has more targets than its limit
abbrev pub can_overvote : Contest → Bool
can_overvote c = nat_lt c.limit c.targets

-- how many ballots can vote in contest c: those that needn't be blank nor overvoted in it
abbrev pub most_voting : PartialDeck → ℕ → ℕ
most_voting p c =
    if can_overvote (contest_at p.contests c) then p.ballots - p.rules.blank - p.rules.over
    else p.ballots - p.rules.blank

-- whether some entry is above a number, or above the entry at its place in a second list
abbrev pub is_above : ℕ → List ℕ → List ℕ → Bool
is_above most [] highs = false
is_above most (low ∷ lows) [] = false
is_above most (low ∷ lows) (high
    ∷ highs) = nat_lt high low || (nat_lt most low || is_above most lows highs)

-- whether some least total of contest c is above what its total can be
abbrev pub has_no_totals : PartialDeck → ℕ → Bool
has_no_totals p c =
    nat_lt c (length p.contests) && is_above (most_voting p c) (least_totals p c) (highs p c)
