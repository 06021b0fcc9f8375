-- Contests whose totals are known, and how two of them compare.
use Rattle.std.specs.Prelude.{ℕ, ◌&&◌, ◌==◌, Bool, nat_lt, List, length, map}
use Rattle.std.specs.List.{list_all}
use Rattle.std.specs.Cmp.Lexicographic.{slice_cmp}
use Rattle.std.specs.Ordering.{nat_cmp, is_eq, is_gt}
use Rattle.lat_base.specs.declared.contest.Contest.{Contest}
use Rattle.lat_base.specs.Shape.{contest_at}
use Rattle.readings.specs.Structural.{targets_of}
use Rattle.deck_state.specs.PartialDeck.{PartialDeck}
use Rattle.deck_state.specs.Votes.{lo, hi}

-- the least totals of the targets of contest c as far as is known
abbrev pub lows : PartialDeck → ℕ → List ℕ
lows p c = map (lo p) (targets_of p.contests c)

-- whether `lo` and `hi` of each target of contest c are the same, so that the totals are known
abbrev pub is_fixed : PartialDeck → ℕ → Bool
is_fixed p c = list_all (λ t. lo p t == hi p t) (targets_of p.contests c)

-- whether two contests have the same limit and number of targets
abbrev pub has_shape_of : Contest → Contest → Bool
has_shape_of c d = (c.limit == d.limit) && (c.targets == d.targets)

-- whether c comes before d, both have the same shape, and the totals of both are known
abbrev pub are_comparable : PartialDeck → ℕ → ℕ → Bool
are_comparable p c d =
    nat_lt c d && (nat_lt d (length p.contests)
    && (has_shape_of (contest_at p.contests c) (contest_at p.contests d)
    && (is_fixed p c && is_fixed p d)))

-- whether, besides, the totals are the same
abbrev pub are_twins : PartialDeck → ℕ → ℕ → Bool
are_twins p c d = are_comparable p c d && is_eq (slice_cmp nat_cmp (lows p c) (lows p d))

-- whether, besides, those of c are greater
abbrev pub are_out_of_order : PartialDeck → ℕ → ℕ → Bool
are_out_of_order p c d = are_comparable p c d && is_gt (slice_cmp nat_cmp (lows p c) (lows p d))
