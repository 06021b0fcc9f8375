-- Marks that give no vote.
use Rattle.std.specs.Prelude.{ℕ, ◌-◌, Bool, List, count_by, sum_by}
use Rattle.std.specs.List.{range_with_len}
use Rattle.lat_base.specs.declared.contest.Contest.{Contest}
use Rattle.lat_base.specs.Shape.{target_count}
use Rattle.lat_base.specs.Tally.{own_total}

-- how many targets a ballot marks
abbrev pub marks_of : List Bool → ℕ
marks_of ballot = count_by (λ mark. mark) ballot

-- how many marks a deck has
abbrev pub mark_total : List (List Bool) → ℕ
mark_total deck = sum_by marks_of deck

-- the totals of the first n targets together
abbrev pub votes_below : List Contest → List (List Bool) → ℕ → ℕ
votes_below contests deck n = sum_by (own_total contests deck) (range_with_len 0 n)

-- the marks of a deck less the sum of its totals
abbrev pub lost_marks : List Contest → List (List Bool) → ℕ
lost_marks contests deck = mark_total deck - votes_below contests deck (target_count contests)
