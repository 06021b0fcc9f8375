-- Misassignments that keep contests together.
use Rattle.std.specs.Prelude.{◌≡◌, ◌<◌, ◌+◌, ◌-◌, ◌==◌, ℕ, Bool, cond, List, length, map}
use Rattle.std.specs.List.{range_with_len}
use Rattle.std.specs.List.Sorted.{IsPermutation}
use Rattle.lat_base.specs.declared.contest.Contest.{Contest}
use Rattle.lat_base.specs.Shape.{target_count, first_target, contest_at, contest_of}
use Rattle.lat_base.specs.Tally.{reading}
use Rattle.readings.specs.Turn.{made}

-- the targets of contest c
abbrev pub targets_of : List Contest → ℕ → List ℕ
targets_of contests c = range_with_len (first_target contests c) (contest_at contests c).targets

-- f takes the targets of each contest c to those of contest turn c, which has as many and the same
-- limit
pub record IsStructural (contests : List Contest) (f turn : ℕ → ℕ) : Type 0 where
  pub within : (c : ℕ) → c < length contests → turn c < length contests
  pub shape : (c : ℕ) → c < length contests → contest_at contests (turn c) ≡ contest_at contests c
  pub targets : (c : ℕ) → c < length contests
      → IsPermutation (targets_of contests (turn c)) (map f (targets_of contests c))
  pub contest : (u : ℕ) → u < target_count contests
      → contest_of contests (f u) ≡ turn (contest_of contests u)

-- the contests c and d exchanged whole, target by target
abbrev pub exchange_contests : List Contest → ℕ → ℕ → ℕ → ℕ
exchange_contests contests c d v =
    cond (contest_of contests v == c) (v - first_target contests c + first_target contests d)
    (cond (contest_of contests v == d) (v - first_target contests d + first_target contests c) v)

-- the deck in which target u has the marks of target f u
abbrev pub relabelled : ℕ → (ℕ → ℕ) → List (List Bool) → List (List Bool)
relabelled n f deck = map (λ ballot. reading ballot (made n f)) deck
