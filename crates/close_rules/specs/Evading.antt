-- Misassignments that change no total, as far as the marks are decided.
use Rattle.std.specs.Prelude.{ℕ, ◌||◌, ◌&&◌, ◌==◌, Bool, not, List, length, count_by}
use Rattle.std.specs.List.{list_all, range_with_len}
use Rattle.lat_base.specs.declared.contest.Contest.{Contest}
use Rattle.lat_base.specs.Shape.{target_count}
use Rattle.lat_base.specs.Misassignment.{source}
use Rattle.lat_base.specs.Tally.{total, own_total}
use Rattle.readings.specs.Structural.{targets_of}
use Rattle.deck_state.specs.Mark.{is_undecided}
use Rattle.deck_state.specs.PartialDeck.{PartialDeck}
use Rattle.deck_state.specs.Shown.{shown}
use Rattle.deck_state.specs.Votes.{marks_in}

-- whether a list has each number below n once
abbrev pub is_misassignment : ℕ → List ℕ → Bool
is_misassignment n s = (length s == n) && list_all
    (λ t. count_by (λ source. source == t) s == 1) (range_with_len 0 n)

-- whether target u counts for itself
abbrev pub stays : List ℕ → ℕ → Bool
stays s u = source s u == u

-- whether each mark in contest c is decided
abbrev pub is_decided : PartialDeck → ℕ → Bool
is_decided p c = list_all
    (λ row. list_all (λ mark. not (is_undecided mark)) (marks_in p.contests row c)) p.marks

-- whether target u has the same total under the misassignment as under the identity, undecided
-- marks being none
abbrev pub keeps_total : PartialDeck → List ℕ → ℕ → Bool
keeps_total p s u = total p.contests (shown p) s u == own_total p.contests (shown p) u

-- whether each mark in contest c is decided, and each total in it the same
abbrev pub keeps_totals : PartialDeck → List ℕ → ℕ → Bool
keeps_totals p s c = is_decided p c && list_all (keeps_total p s) (targets_of p.contests c)

-- whether each target of contest c counts for itself
abbrev pub is_left : List Contest → List ℕ → ℕ → Bool
is_left contests s c = list_all (stays s) (targets_of contests c)

-- whether contest c is left as it is, or decided and keeps its totals
abbrev pub keeps_contest : PartialDeck → List ℕ → ℕ → Bool
keeps_contest p s c = is_left p.contests s c || keeps_totals p s c

-- whether a misassignment isn't the identity, and each contest that it doesn't leave as it is
-- keeps its totals
abbrev pub evades : PartialDeck → List ℕ → Bool
evades p s =
    is_misassignment (target_count p.contests) s
    && (not (list_all (stays s) (range_with_len 0 (target_count p.contests)))
    && list_all (keeps_contest p s) (range_with_len 0 (length p.contests)))
