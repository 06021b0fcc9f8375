-- Ballots that are surely out of order.
use Rattle.std.specs.Prelude.{ℕ, ◌+◌, ◌&&◌, Bool, true, false, nat_lt, List, [], ◌∷◌}
use Rattle.deck_state.specs.declared.mark.Mark.{Mark}
use Rattle.deck_state.specs.declared.mark.Mark.TheVariants.{Marked, Unmarked, Undecided}
use Rattle.deck_state.specs.PartialDeck.{PartialDeck, row_at}

-- whether two rows are decided and equal up to a target at which the first is unmarked and the
-- second marked
abbrev pub is_smaller : List Mark → List Mark → Bool
is_smaller [] other = false
is_smaller (mark ∷ row) [] = false
is_smaller (Marked ∷ row) (Marked ∷ other) = is_smaller row other
is_smaller (Marked ∷ row) (Unmarked ∷ other) = false
is_smaller (Marked ∷ row) (Undecided ∷ other) = false
is_smaller (Unmarked ∷ row) (Marked ∷ other) = true
is_smaller (Unmarked ∷ row) (Unmarked ∷ other) = is_smaller row other
is_smaller (Unmarked ∷ row) (Undecided ∷ other) = false
is_smaller (Undecided ∷ row) (mark ∷ other) = false

-- whether ballot j is smaller than the next
abbrev pub is_out_of_order : PartialDeck → ℕ → Bool
is_out_of_order p j = nat_lt (j + 1) p.ballots && is_smaller (row_at p j) (row_at p (j + 1))
