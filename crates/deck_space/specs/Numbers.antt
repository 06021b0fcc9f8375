-- Decks and rows of marks as lists of numbers: 1 for marked and 0 for unmarked, ballot by ballot.
use Rattle.std.specs.Prelude.{ℕ, Bool, cond, List, map}
use Rattle.std.specs.List.{flat_map}
use Rattle.deck_state.specs.Mark.{is_marked}
use Rattle.deck_state.specs.PartialDeck.{PartialDeck}

-- the number of a mark
abbrev pub number : Bool → ℕ
number mark = cond mark 1 0

-- the marks of a deck
abbrev pub numbers : List (List Bool) → List ℕ
numbers deck = flat_map (λ ballot. map number ballot) deck

-- the marks of a partial deck; an undecided one counts as unmarked
abbrev pub marks_as_numbers : PartialDeck → List ℕ
marks_as_numbers p = flat_map (λ row. map (λ mark. number (is_marked mark)) row) p.marks
