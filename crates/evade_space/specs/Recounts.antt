-- Which of a state's kept counts are right.
use Rattle.std.specs.Prelude.{◌≡◌, ◌≢◌, ◌<◌, ◌⊎◌, ℕ, None, Option, List, length, get_or}
use Rattle.lat_base.specs.Shape.{target_count, contest_of}
use Rattle.evade_space.specs.Sources.{source_at, empty_places, AreGiven}
use Rattle.evade_space.specs.Votes.{may_vote, must_vote}
use Rattle.evade_space.specs.Counts.{counts_of}
use Rattle.evade_space.specs.PartialMisassignment.{PartialMisassignment}
use Rattle.evade_space.specs.Sought.{Sought, IsSought}

-- the counts of marks are right, and there is a number of votes for each image
pub record HasMarks (sought : Sought) (s : PartialMisassignment) : Type 0 where
  pub is_sought : IsSought sought
  pub are : AreGiven (target_count sought.contests) s.sources
  pub taken : s.counts.taken ≡ (counts_of sought.contests sought.deck s.sources).taken
  pub free : s.counts.free ≡ (counts_of sought.contests sought.deck s.sources).free
  pub lost : s.counts.lost ≡ (counts_of sought.contests sought.deck s.sources).lost
  pub may : length s.counts.may ≡ target_count sought.contests
  pub must : length s.counts.must ≡ target_count sought.contests

-- so many ballots may vote for image u, and so many surely do
pub record AreVotes (sought : Sought) (sources : List (Option ℕ)) (u may must : ℕ) : Type 0 where
  pub are_possible : may ≡ may_vote sought.contests sought.deck sources u
  pub are_sure : must ≡ must_vote sought.contests sought.deck sources u

-- the kept votes for image u are right
abbrev pub HasVotes : Sought → PartialMisassignment → ℕ → Type 0
HasVotes sought s u =
    AreVotes sought s.sources u (get_or s.counts.may u 0) (get_or s.counts.must u 0)

-- the kept votes are right for each image of another contest than `own` that has no empty place,
-- and for each that has no source
abbrev pub HasVotesBeside : Sought → PartialMisassignment → ℕ → Type 0
HasVotesBeside sought s own =
    (u : ℕ) → u < target_count sought.contests → contest_of sought.contests u ≢ own
    → (empty_places sought.contests s.sources (contest_of sought.contests u) ≡ 0)
    ⊎ (source_at s.sources u ≡ None) → HasVotes sought s u

-- the second state differs from the first in its votes alone
pub record KeepsRest (s after : PartialMisassignment) : Type 0 where
  pub sources : after.sources ≡ s.sources
  pub order : after.order ≡ s.order
