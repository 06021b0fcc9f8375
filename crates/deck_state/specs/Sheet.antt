-- The marks of ballots, and the counts that are kept with them.
use Rattle.std.specs.Prelude.{◌≡◌, ℕ, ◌+◌, ◌<◌, ◌≤◌, ◌⊎◌, Bool, cond, List, [], length, get_or, count_by, All}
use Rattle.lat_base.specs.declared.contest.Contest.{Contest}
use Rattle.lat_base.specs.Shape.{target_count, IsShape}
use Rattle.deck_state.specs.declared.kept_counts.ContestCount.{ContestCount}
use Rattle.deck_state.specs.declared.kept_counts.VoteCount.{VoteCount}
use Rattle.deck_state.specs.declared.mark.Mark.{Mark}
use Rattle.deck_state.specs.Changes.{with_mark}
use Rattle.deck_state.specs.Votes.{marked_in, possible_in, surely_votes_for, possibly_votes_for}

-- for each ballot a row of marks at the targets of the style
pub record MarkSheet : Type 0 where
  pub contests : List Contest
  pub marks : List (List Mark)

-- the sheet with that one mark in the place of ballot j's at target t
abbrev pub sheet_with : MarkSheet → ℕ → ℕ → Mark → MarkSheet
sheet_with s j t mark = record s { marks = with_mark s.marks j t mark }

-- how many targets of contest c a row marks, and how many it marks or leaves undecided
abbrev pub count_of : List Contest → List Mark → ℕ → ContestCount
count_of contests row c = record {
  marked = marked_in contests row c;
  possible = possible_in contests row c;
}

-- how many rows surely vote for target u, and how many possibly
abbrev pub votes_of : List Contest → List (List Mark) → ℕ → VoteCount
votes_of contests marks u = record {
  sure = count_by (λ row. surely_votes_for contests row u) marks;
  possible = count_by (λ row. possibly_votes_for contests row u) marks;
}

-- the counts in the place of those past the end
abbrev pub no_count : ContestCount
no_count = record { marked = 0; possible = 0 }

abbrev pub no_votes : VoteCount
no_votes = record { sure = 0; possible = 0 }

-- one vote, where there is one
abbrev pub vote : Bool → ℕ
vote voted = cond voted 1 0

-- the counts that are kept of a row in contest c, and the votes that are kept for target u
abbrev pub count_at : List ContestCount → ℕ → ContestCount
count_at counts c = get_or counts c no_count

abbrev pub votes_at : List VoteCount → ℕ → VoteCount
votes_at votes u = get_or votes u no_votes

-- the counts of a row, contest by contest
pub record AreCounts (contests : List Contest) (row : List Mark) (counts : List ContestCount)
    : Type 0 where
  pub each : length counts ≡ length contests
  pub right : (c : ℕ) → c < length contests → count_at counts c ≡ count_of contests row c

-- the votes of rows, target by target
pub record AreVotes (contests : List Contest) (marks : List (List Mark)) (votes : List VoteCount)
    : Type 0 where
  pub each : length votes ≡ target_count contests
  pub right : (u : ℕ) → u < target_count contests → votes_at votes u ≡ votes_of contests marks u

-- a sheet of at most 1,024 ballots, with the counts that are kept
pub record IsSheet (s : MarkSheet) (counts : List (List ContestCount)) (votes : List VoteCount)
    : Type 0 where
  pub shape : IsShape s.contests
  pub few : length s.marks ≤ 1024
  pub widths : All (λ row. length row ≡ target_count s.contests) s.marks
  pub height : length counts ≡ length s.marks
  pub counted : (j : ℕ) → j < length s.marks
      → AreCounts s.contests (get_or s.marks j []) (get_or counts j [])
  pub voted : AreVotes s.contests s.marks votes

-- the votes once a row has become another, as far as the targets from `first` to `next` go
pub record AreMoved (contests : List Contest) (row after : List Mark) (first next : ℕ)
    (old new : List VoteCount) : Type 0 where
  pub long : length new ≡ length old
  pub sure : (u : ℕ) → first ≤ u → u < next
      → (votes_at new u).sure + vote (surely_votes_for contests row u)
      ≡ (votes_at old u).sure + vote (surely_votes_for contests after u)
  pub possible : (u : ℕ) → first ≤ u → u < next
      → (votes_at new u).possible + vote (possibly_votes_for contests row u)
      ≡ (votes_at old u).possible + vote (possibly_votes_for contests after u)
  pub other : (u : ℕ) → (u < first) ⊎ (next ≤ u) → votes_at new u ≡ votes_at old u

-- a row is one of those that the votes count, and they are few
pub record IsCounted (contests : List Contest) (row : List Mark) (votes : List VoteCount)
    : Type 0 where
  pub each : length votes ≡ target_count contests
  pub sure : (u : ℕ) → u < target_count contests
      → vote (surely_votes_for contests row u) ≤ (votes_at votes u).sure
  pub possible : (u : ℕ) → u < target_count contests
      → vote (possibly_votes_for contests row u) ≤ (votes_at votes u).possible
  pub few_sure : (u : ℕ) → u < target_count contests → (votes_at votes u).sure ≤ 1024
  pub few_possible : (u : ℕ) → u < target_count contests → (votes_at votes u).possible ≤ 1024
