-- The value of a partial deck has the numbers of the deck that it shows.
use Rattle.std.proofs.Common.{◌≡◌, ◌++◌, ℕ, List, [], ◌∷◌, map, refl, ap}
use Rattle.std.specs.List.{flat_map}
use Rattle.close_rules.specs.Solution.{IsSolution}
use Rattle.deck_state.specs.declared.mark.Mark.{Mark}
use Rattle.deck_state.specs.Mark.{is_marked}
use Rattle.deck_state.specs.PartialDeck.{PartialDeck}
use Rattle.deck_state.specs.Shown.{shown}
use Rattle.deck_space.specs.Numbers.{number, numbers, marks_as_numbers}
use Rattle.deck_space.specs.Steps.{Solves}

row_value : (row : List Mark) → map (λ mark. number (is_marked mark)) row
    ≡ map number (map is_marked row)
row_value [] = refl
row_value (mark ∷ row) = ap (λ (rest : List ℕ). number (is_marked mark) ∷ rest) (row_value row)

rows_value : (rows : List (List Mark))
    → flat_map (λ row. map (λ mark. number (is_marked mark)) row) rows
    ≡ numbers (map (λ row. map is_marked row) rows)
rows_value [] = refl
rows_value (row ∷ rows) = λ i. row_value row i ++ rows_value rows i

pub value_solves : (p : PartialDeck) → IsSolution p (shown p) → Solves p (marks_as_numbers p)
value_solves p solution = (shown p, rows_value p.marks, solution)
