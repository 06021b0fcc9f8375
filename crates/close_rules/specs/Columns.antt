-- Targets whose marks are the same on every ballot.
use Rattle.std.specs.Prelude.{ℕ, ◌^◌, ◌&&◌, ◌==◌, Bool, true, false, not, nat_lt, List, get_or}
use Rattle.std.specs.List.{list_all}
use Rattle.lat_base.specs.Shape.{target_count}
use Rattle.deck_state.specs.declared.mark.Mark.{Mark}
use Rattle.deck_state.specs.declared.mark.Mark.TheVariants.{Marked, Unmarked, Undecided}
use Rattle.deck_state.specs.PartialDeck.{PartialDeck}

-- whether two marks are decided and the same
abbrev pub is_same : Mark → Mark → Bool
is_same Marked Marked = true
is_same Marked Unmarked = false
is_same Marked Undecided = false
is_same Unmarked Marked = false
is_same Unmarked Unmarked = true
is_same Unmarked Undecided = false
is_same Undecided other = false

-- whether the marks of t and u are decided and the same in a row
abbrev pub has_same : ℕ → ℕ → List Mark → Bool
has_same t u row = is_same (get_or row t Undecided) (get_or row u Undecided)

-- whether two targets have marks that are decided and the same on every ballot
abbrev pub have_same_columns : PartialDeck → ℕ → ℕ → Bool
have_same_columns p t u =
    nat_lt t (target_count p.contests) && (nat_lt u (target_count p.contests)
    && (not (t == u) && list_all (has_same t u) p.marks))

-- whether there are fewer columns of marks on the ballots than targets
abbrev pub has_few_columns : PartialDeck → Bool
has_few_columns p = nat_lt (2 ^ p.ballots) (target_count p.contests)
