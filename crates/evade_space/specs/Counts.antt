-- What a state keeps beside its sources: counts of the deck that follow from them.
use Rattle.std.specs.Prelude.{ℕ, Bool, Option, List, length, map}
use Rattle.std.specs.List.{range_with_len}
use Rattle.lat_base.specs.declared.contest.Contest.{Contest}
use Rattle.evade_space.specs.Seen.{taken, free_marks}
use Rattle.evade_space.specs.Votes.{may_vote, must_vote}
use Rattle.evade_space.specs.Losses.{lost}

-- for each contest, how many sources of its images each ballot marks; how many unused targets each
-- ballot marks; for each image, how many ballots may vote for it and how many surely do, both 0
-- without a source; and how many marks are surely lost
pub record Counts : Type 0 where
  pub taken : List (List ℕ)
  pub free : List ℕ
  pub may : List ℕ
  pub must : List ℕ
  pub lost : ℕ

-- how many sources of contest c's images each ballot marks
abbrev pub taken_in : List Contest → List (List Bool) → List (Option ℕ) → ℕ → List ℕ
taken_in contests deck sources c = map (λ ballot. taken contests sources ballot c) deck

-- how many unused targets each ballot marks
abbrev pub free_in : List (List Bool) → List (Option ℕ) → List ℕ
free_in deck sources = map (λ ballot. free_marks sources ballot) deck

-- for each image, how many ballots may vote for it
abbrev pub may_votes : List Contest → List (List Bool) → List (Option ℕ) → List ℕ
may_votes contests deck sources =
    map (may_vote contests deck sources) (range_with_len 0 (length sources))

-- for each image, how many ballots surely vote for it
abbrev pub must_votes : List Contest → List (List Bool) → List (Option ℕ) → List ℕ
must_votes contests deck sources =
    map (must_vote contests deck sources) (range_with_len 0 (length sources))

-- the counts of a deck under these sources
abbrev pub counts_of : List Contest → List (List Bool) → List (Option ℕ) → Counts
counts_of contests deck sources = record {
  taken = map (taken_in contests deck sources) (range_with_len 0 (length contests));
  free = free_in deck sources;
  may = may_votes contests deck sources;
  must = must_votes contests deck sources;
  lost = lost contests deck sources;
}
