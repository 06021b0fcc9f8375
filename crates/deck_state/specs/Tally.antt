-- On how many ballots a contest can have so many votes, or be overvoted, as numbers that are kept.
use Rattle.std.specs.Prelude.{◌≡◌, ℕ, ◌+◌, ◌*◌, ◌/◌, ◌%◌, ◌<◌, ◌≤◌, ◌⊎◌, Bool, cond, if◌then◌else◌, nat_lt, min, List, length, get_or, count_by}
use Rattle.lat_base.specs.declared.contest.Contest.{Contest}
use Rattle.lat_base.specs.Shape.{contest_at, IsShape}
use Rattle.deck_state.specs.declared.kept_counts.ContestCount.{ContestCount}
use Rattle.deck_state.specs.declared.mark.Mark.{Mark}
use Rattle.deck_state.specs.Sheet.{count_of, vote}

-- how many votes a ballot with these counts can give: none where it is overvoted, else at most the
-- limit, for targets that are marked or undecided
abbrev pub most_of : (limit : ℕ) → ContestCount → ℕ
most_of limit count = if nat_lt limit count.marked then 0 else min limit count.possible

-- whether a ballot with these counts belongs to level v: below the limit, where it can give more
-- than v votes; at the limit, where it can be overvoted
abbrev pub is_at : (limit v : ℕ) → ContestCount → Bool
is_at limit v count =
    if nat_lt v limit then nat_lt v (most_of limit count) else nat_lt limit count.possible

-- how many rows belong to level v of contest c
abbrev pub level_of : List Contest → List (List Mark) → (c v : ℕ) → ℕ
level_of contests marks c v =
    count_by (λ row. is_at (contest_at contests c).limit v (count_of contests row c)) marks

-- a limit is at most 64, so each contest has room for 65 levels
abbrev pub place_of : (c v : ℕ) → ℕ
place_of c v = c * 65 + v

-- the level at a place, of k rows that are alike
abbrev pub level_alike : List Contest → List Mark → (k place : ℕ) → ℕ
level_alike contests row k place =
    let c = place / 65 in
    cond (is_at (contest_at contests c).limit (place % 65) (count_of contests row c)) k 0

-- the levels of the rows, contest by contest
pub record AreLevels (contests : List Contest) (marks : List (List Mark)) (levels : List ℕ)
    : Type 0 where
  pub shape : IsShape contests
  pub few : length marks ≤ 1024
  pub each : length levels ≡ length contests * 65
  pub right : (c v : ℕ) → c < length contests → v ≤ (contest_at contests c).limit
      → get_or levels (place_of c v) 0 ≡ level_of contests marks c v

-- the first n levels from a place on, once the counts of one ballot have become others
pub record AreRaised (limit first n : ℕ) (before after : ContestCount) (old new : List ℕ)
    : Type 0 where
  pub long : length new ≡ length old
  pub here : (v : ℕ) → v < n
      → get_or new (first + v) 0 + vote (is_at limit v before)
      ≡ get_or old (first + v) 0 + vote (is_at limit v after)
  pub other : (i : ℕ) → (i < first) ⊎ (first + n ≤ i) → get_or new i 0 ≡ get_or old i 0

-- a ballot with these counts belongs to the levels, and they are few
pub record HasLevels (limit first : ℕ) (before : ContestCount) (levels : List ℕ) : Type 0 where
  pub room : first + limit < length levels
  pub enough : (v : ℕ) → v ≤ limit → vote (is_at limit v before) ≤ get_or levels (first + v) 0
  pub few : (v : ℕ) → v ≤ limit → get_or levels (first + v) 0 ≤ 1024
