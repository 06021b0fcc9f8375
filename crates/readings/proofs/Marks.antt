-- The marks of a contest as a list made from its targets.
use Rattle.std.proofs.Common.{◌≡◌, ◌≤◌, ◌<◌, ◌+◌, ◌-◌, ℕ, Bool, false, List, length, take, drop, map, refl, ap, sym, ◌∙◌, arith, length-drop}
use Rattle.std.specs.Prelude.{slice_range}
use Rattle.std.specs.List.{range_with_len}
use Rattle.std.proofs.lemmas.List.{get_or-drop, get_or-take, get_or_default, same_lists, length-take-le}
use Rattle.std.proofs.lemmas.List.FromFn.{get_or-map-range_with_len, length-map-range_with_len}
use Rattle.lat_base.specs.declared.contest.Contest.{Contest}
use Rattle.lat_base.specs.Shape.{target_count, first_target, contest_at}
use Rattle.lat_base.specs.Tally.{is_marked, marks_in}
use Rattle.readings.specs.Structural.{targets_of}
use Rattle.readings.proofs.Places.{first_next, first_le}

-- a slice as a list made from the numbers of its places
pub slice_is : (b : List Bool) (a n : ℕ) → a + n ≤ length b
    → slice_range b a (a + n) ≡ map (λ t. is_marked b t) (range_with_len a n)
slice_is b a n h =
    let width : a + n - a ≡ n = omega arith in
    let long : length (take n (drop a b)) ≡ n = length-take-le n (drop a b) (omega (arith, h, length-drop a b)) in
    ap (λ (m : ℕ). take m (drop a b)) width
    ∙ same_lists (take n (drop a b)) (map (λ t. is_marked b t) (range_with_len a n)) (long ∙ sym (length-map-range_with_len (λ (t : ℕ). is_marked b t) a n))
    (λ k d lt.
    let k_in : k < n = omega (arith, lt, long) in
    get_or-take n (drop a b) k d k_in ∙ (get_or-drop a b k d ∙ (get_or_default b (a + k) d false (omega (arith, h, k_in))
    ∙ sym (get_or-map-range_with_len (λ (t : ℕ). is_marked b t) a n k (a + k) d k_in refl))))

-- the marks of a contest, as a list made from its targets
pub marks_are : (contests : List Contest) (b : List Bool) (c : ℕ) → c < length contests
    → length b ≡ target_count contests
    → marks_in contests b c ≡ map (λ t. is_marked b t) (targets_of contests c)
marks_are contests b c h long =
    let next = first_next contests c h in
    ap (λ (m : ℕ). slice_range b (first_target contests c) m) next ∙ slice_is b (first_target contests c) (contest_at contests c).targets (omega (arith, next, first_le contests (c + 1), long))
