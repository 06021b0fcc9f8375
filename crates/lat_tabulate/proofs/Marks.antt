-- How the marks of a contest are counted one by one.
use Rattle.std.proofs.Common.{◌≡◌, ◌≤◌, ◌<◌, ◌+◌, ◌-◌, ℕ, Bool, false, List, length, get_or, cond, count_by, ap, ◌∙◌, subst, arith}
use Rattle.std.specs.Prelude.{slice_range}
use Rattle.std.proofs.lemmas.List.{get_or-map, length-map}
use Rattle.std.proofs.lemmas.List.Sums.{sum_by_more, sum_by-take-le}
use Rattle.lat_base.specs.declared.contest.Contest.{Contest}
use Rattle.lat_base.specs.Shape.{IsShape, first_target, target_count, no_contest}
use Rattle.lat_base.specs.Misassignment.{IsMisassignment}
use Rattle.lat_misassign.specs.Sources.{AreSources}
use Rattle.readings.proofs.Within.{within_of}
use Rattle.readings.proofs.Grouped.{slice_more}
use Rattle.lat_tabulate.specs.Fitting.{AreRead}
use Rattle.lat_base.specs.Tally.{reading, is_marked}

-- one more target adds its mark, as read
pub marks_more : (ballot : List Bool) (s : List ℕ) (a t : ℕ) → a ≤ t → t < length s
    → count_by (λ m. m) (slice_range (reading ballot s) a (t + 1))
    ≡ count_by (λ m. m) (slice_range (reading ballot s) a t) + cond
    (is_marked ballot (get_or s t 0)) 1 0
marks_more ballot s a t le lt =
    slice_more (reading ballot s) a t le (omega (arith, lt, length-map s (λ (u : ℕ). is_marked ballot u)))
    ∙ ap (λ (m : Bool). count_by (λ m. m) (slice_range (reading ballot s) a t) + cond m 1 0) (get_or-map (λ (u : ℕ). is_marked ballot u) s t 0 false lt)

pub first_le_next : (contests : List Contest) (c : ℕ) → c < length contests
    → first_target contests c ≤ first_target contests (c + 1)
first_le_next contests c lt = omega (arith, sum_by_more (λ (x : Contest). x.targets) contests c no_contest lt)

-- a contest has 1 to 64 targets, and they are the style's
pub contest_places : (contests : List Contest) (c : ℕ) → IsShape contests → c < length contests
    → ((first_target contests c < first_target contests (c + 1))
    × (first_target contests (c + 1) - first_target contests c ≤ 64))
    × (first_target contests (c + 1) ≤ target_count contests)
contest_places contests c is lt =
    let next = sum_by_more (λ (x : Contest). x.targets) contests c no_contest lt in
    let size = is.counts c no_contest lt in
    ((omega (arith, next, size.0), omega (arith, next, size.1)), sum_by-take-le (λ (x : Contest). x.targets) contests (c + 1))

-- the sources of a misassignment of the style's targets are targets
pub are_read : (contests : List Contest) (s : List ℕ) → AreSources s
    → length s ≡ target_count contests → AreRead contests s
are_read contests s are long = record { long = long; within = within_of (target_count contests) s (subst (λ (n : ℕ). IsMisassignment n s) long are.is) }
