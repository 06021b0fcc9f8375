-- Canonical decks: one for each way to reorder ballots, targets of a contest, and contests of the
-- same shape.
use Rattle.std.specs.Prelude.{◌≡◌, ◌≢◌, ◌+◌, ◌<◌, ◌≤◌, ℕ, Bool, List, [], length, get_or, slice_range}
use Rattle.std.specs.Ordering.{nat_cmp, bool_cmp}
use Rattle.std.specs.Cmp.Lexicographic.{slice_cmp}
use Rattle.std.specs.declared.cmp.Ordering.TheVariants.{Less, Greater}
use Rattle.lat_base.specs.declared.contest.Contest.{Contest}
use Rattle.lat_base.specs.Shape.{target_count, first_target, contest_at, contest_of}
use Rattle.lat_base.specs.Misassignment.{identity}
use Rattle.lat_base.specs.Tally.{report, own_total}

-- the totals of contest c, in order
abbrev pub totals_in : List Contest → List (List Bool) → ℕ → List ℕ
totals_in contests deck c =
    slice_range (report contests deck (identity (target_count contests))) (first_target contests c)
    (first_target contests (c + 1))

pub record IsCanonical (contests : List Contest) (deck : List (List Bool)) : Type 0 where
  -- no ballot is smaller than the next, from target 0 on, a mark being greater than none
  pub ballots : (j : ℕ) → j + 1 < length deck
      → slice_cmp bool_cmp (get_or deck j []) (get_or deck (j + 1) []) ≢ Less
  -- totals don't fall within a contest
  pub totals : (t : ℕ) → t + 1 < target_count contests
      → contest_of contests t ≡ contest_of contests (t + 1)
      → own_total contests deck t ≤ own_total contests deck (t + 1)
  -- of two contests of the same limit and number of targets, the earlier one's totals aren't
  -- greater
  pub earlier : (c d : ℕ) → c < d → d < length contests
      → contest_at contests c ≡ contest_at contests d
      → slice_cmp nat_cmp (totals_in contests deck c) (totals_in contests deck d) ≢ Greater
