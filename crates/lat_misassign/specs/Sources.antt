-- Lists of sources: at each place the target whose marks count for the target of that place.
use Rattle.std.specs.Prelude.{ℕ, ◌+◌, ◌-◌, ◌≤◌, ◌&&◌, List, length, map, nat_lt, nat_le, Bool, if◌then◌else◌}
use Rattle.std.specs.List.{range_with_len}
use Rattle.lat_base.specs.declared.limits.TheConstants.{MOST_TARGETS}
use Rattle.lat_base.specs.declared.contest.Contest.{Contest}
use Rattle.lat_base.specs.Shape.{target_count, first_target}
use Rattle.lat_base.specs.Misassignment.{IsMisassignment}

-- the sources of a misassignment of 1 to 256 targets
pub record AreSources (s : List ℕ) : Type 0 where
  pub some : 1 ≤ length s
  pub few : length s ≤ MOST_TARGETS
  pub is : IsMisassignment (length s) s

-- whether target u is of contest c
abbrev pub is_in : List Contest → ℕ → ℕ → Bool
is_in contests c u = nat_le (first_target contests c) u && nat_lt u (first_target contests (c + 1))

-- the target of contest d at the place that target u has in contest c
abbrev pub counterpart : List Contest → ℕ → ℕ → ℕ → ℕ
counterpart contests c d u = first_target contests d + (u - first_target contests c)

-- the source of u where the contests c and d are exchanged target by target
abbrev pub exchanged : List Contest → ℕ → ℕ → ℕ → ℕ
exchanged contests c d u =
    if is_in contests c u then counterpart contests c d u
    else if is_in contests d u then counterpart contests d c u
    else u

-- the exchange of the contests c and d, target by target
abbrev pub contests_exchanged : List Contest → ℕ → ℕ → List ℕ
contests_exchanged contests c d =
    map (exchanged contests c d) (range_with_len 0 (target_count contests))
