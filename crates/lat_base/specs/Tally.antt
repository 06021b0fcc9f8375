-- How votes are counted. A ballot is a list of truth values, one for each target; a deck is a list
-- of ballots.
use Rattle.std.specs.Prelude.{ℕ, ◌+◌, ◌&&◌, Bool, false, List, map, get_or, slice_range, count_by, not, nat_lt}
use Rattle.std.specs.List.{range_with_len}
use Rattle.lat_base.specs.declared.contest.Contest.{Contest}
use Rattle.lat_base.specs.Shape.{target_count, first_target, contest_at, contest_of}
use Rattle.lat_base.specs.Misassignment.{identity}

-- whether a ballot marks target t
abbrev pub is_marked : List Bool → ℕ → Bool
is_marked ballot t = get_or ballot t false

-- the ballot as it is read under a misassignment: at u it has the mark of u's source
abbrev pub reading : List Bool → List ℕ → List Bool
reading ballot s = map (λ t. is_marked ballot t) s

-- the marks of a ballot at the targets of contest c
abbrev pub marks_in : List Contest → List Bool → ℕ → List Bool
marks_in contests ballot c =
    slice_range ballot (first_target contests c) (first_target contests (c + 1))

-- how many targets of contest c a ballot marks
abbrev pub mark_count : List Contest → List Bool → ℕ → ℕ
mark_count contests ballot c = count_by (λ mark. mark) (marks_in contests ballot c)

-- whether a ballot marks more targets of contest c than its limit
abbrev pub is_overvoted : List Contest → List Bool → ℕ → Bool
is_overvoted contests ballot c = nat_lt (contest_at contests c).limit (mark_count contests ballot c)

-- whether a ballot, as read, votes for target u: it marks u, and no more targets of u's contest
-- than the limit
abbrev pub votes_for : List Contest → List Bool → ℕ → Bool
votes_for contests read u =
    is_marked read u && not (is_overvoted contests read (contest_of contests u))

-- the votes that a deck gives to u under a misassignment
abbrev pub total : List Contest → List (List Bool) → List ℕ → ℕ → ℕ
total contests deck s u = count_by (λ ballot. votes_for contests (reading ballot s) u) deck

-- the totals of all targets, in order
abbrev pub report : List Contest → List (List Bool) → List ℕ → List ℕ
report contests deck s = map (total contests deck s) (range_with_len 0 (target_count contests))

-- the total of u where each target counts for itself
abbrev pub own_total : List Contest → List (List Bool) → ℕ → ℕ
own_total contests deck u = total contests deck (identity (target_count contests)) u
