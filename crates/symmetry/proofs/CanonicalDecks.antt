-- When a deck is canonical, by the totals of its targets.
use Rattle.std.proofs.Common.{◌≡◌, ◌<◌, ◌≤◌, ◌+◌, ◌-◌, ℕ, Bool, List, length, take, drop, map, refl, ap, sym, subst, ◌∙◌, arith, length-drop, inl, inr}
use Rattle.std.specs.Prelude.{slice_range}
use Rattle.std.specs.List.{range_with_len}
use Rattle.std.specs.Ordering.{nat_cmp}
use Rattle.std.specs.Cmp.Lexicographic.{slice_cmp}
use Rattle.std.proofs.lemmas.List.{get_or-drop, get_or-take, same_lists, length-take-le}
use Rattle.std.proofs.lemmas.List.FromFn.{get_or-map-range_with_len, length-map-range_with_len}
use Rattle.std.proofs.lemmas.Bool.{cases_eq, cases_lt}
use Rattle.lat_base.specs.declared.contest.Contest.{Contest}
use Rattle.lat_base.specs.Shape.{target_count, first_target, contest_at, contest_of}
use Rattle.lat_base.specs.Misassignment.{identity}
use Rattle.lat_base.specs.Tally.{report, own_total}
use Rattle.lat_base.specs.Canonical.{IsCanonical, totals_in}
use Rattle.lat_ballots.specs.Falling.{AreFalling}
use Rattle.readings.proofs.Places.{first_next, first_le}
use Rattle.symmetry.specs.Order.{RiseWithin, totals_of, AreEarlier}
use Rattle.lemmas.proofs.Ranges.{ranges_alike}

-- a slice of a list that a function makes
made_slice : (f : ℕ → ℕ) (n a m : ℕ) → a + m ≤ n
    → slice_range (map f (range_with_len 0 n)) a (a + m) ≡ map f (range_with_len a m)
made_slice f n a m h =
    let xs = map f (range_with_len 0 n) in
    let width : a + m - a ≡ m = omega arith in
    let whole : length xs ≡ n = length-map-range_with_len f 0 n in
    let long : length (take m (drop a xs)) ≡ m = length-take-le m (drop a xs) (omega (arith, h, length-drop a xs, whole)) in
    ap (λ (k : ℕ). take k (drop a xs)) width
    ∙ same_lists (take m (drop a xs)) (map f (range_with_len a m)) (long ∙ sym (length-map-range_with_len f a m))
    (λ k d lt.
    let k_in : k < m = omega (arith, lt, long) in
    get_or-take m (drop a xs) k d k_in ∙ (get_or-drop a xs k d ∙ (get_or-map-range_with_len f 0 n (a + k) (a + k) d (omega (arith, h, k_in)) (omega arith)
    ∙ sym (get_or-map-range_with_len f a m k (a + k) d k_in refl))))

-- the totals of a contest in the report are those of its targets
pub totals_in_are : (contests : List Contest) (deck : List (List Bool)) (c : ℕ)
    → c < length contests → totals_in contests deck c
    ≡ totals_of contests (own_total contests deck) c
totals_in_are contests deck c lt =
    let next = first_next contests c lt in
    ap (slice_range (report contests deck (identity (target_count contests))) (first_target contests c)) next
    ∙ made_slice (own_total contests deck) (target_count contests) (first_target contests c) (contest_at contests c).targets (omega (arith, next, first_le contests (c + 1)))

compared : (contests : List Contest) (deck : List (List Bool)) (c d : ℕ) → c < length contests
    → d < length contests
    → slice_cmp nat_cmp (totals_in contests deck c) (totals_in contests deck d)
    ≡ slice_cmp nat_cmp (totals_of contests (own_total contests deck) c)
    (totals_of contests (own_total contests deck) d)
compared contests deck c d c_in d_in = λ i. slice_cmp nat_cmp (totals_in_are contests deck c c_in i) (totals_in_are contests deck d d_in i)

pub canonical_of : (contests : List Contest) (deck : List (List Bool)) → AreFalling deck
    → RiseWithin contests (own_total contests deck) → AreEarlier contests (own_total contests deck)
    → IsCanonical contests deck
canonical_of contests deck falling rise earlier = record {
  ballots = falling;
  totals = rise;
  earlier = λ c d lt d_in shape greater. earlier c d (omega (arith, lt, d_in)) lt d_in shape (sym (compared contests deck c d (omega (arith, lt, d_in)) d_in) ∙ greater);
}

pub earlier_of : (contests : List Contest) (deck : List (List Bool)) → IsCanonical contests deck
    → AreEarlier contests (own_total contests deck)
earlier_of contests deck is c d c_in lt d_in shape greater = is.earlier c d lt d_in shape (compared contests deck c d c_in d_in ∙ greater)

-- totals that agree are in the same order
pub rise_alike : (contests : List Contest) (total other : ℕ → ℕ)
    → ((u : ℕ) → u < target_count contests → total u ≡ other u) → RiseWithin contests total
    → RiseWithin contests other
rise_alike contests total other same rise t lt together = omega (arith, rise t lt together, same t (omega (arith, lt)), same (t + 1) lt)

-- and make the same lists
pub totals_alike : (contests : List Contest) (total other : ℕ → ℕ) (c : ℕ)
    → ((u : ℕ) → u < target_count contests → total u ≡ other u) → c < length contests
    → totals_of contests total c ≡ totals_of contests other c
totals_alike contests total other c same lt =
    ranges_alike total other (first_target contests c) (first_target contests c) (contest_at contests c).targets (λ i inside. same (first_target contests c + i) (omega (arith, inside, first_next contests c lt, first_le contests (c + 1))))

pub earlier_alike : (contests : List Contest) (total other : ℕ → ℕ)
    → ((u : ℕ) → u < target_count contests → total u ≡ other u) → AreEarlier contests total
    → AreEarlier contests other
earlier_alike contests total other same earlier c d c_in lt d_in shape greater =
    earlier c d c_in lt d_in shape ((λ i. slice_cmp nat_cmp (totals_alike contests total other c same c_in i) (totals_alike contests total other d same d_in i)) ∙ greater)

-- where totals don't fall at one more target, they don't up to there
pub rise_more : (contests : List Contest) (total : ℕ → ℕ) (t : ℕ)
    → ((k : ℕ) → k < t → contest_of contests k ≡ contest_of contests (k + 1)
    → total k ≤ total (k + 1))
    → ¬ ((contest_of contests t ≡ contest_of contests (t + 1)) × (total (t + 1) < total t))
    → (k : ℕ) → k < t + 1 → contest_of contests k ≡ contest_of contests (k + 1)
    → total k ≤ total (k + 1)
rise_more contests total t so_far here k lt same = elim (cases_eq k t) [
  | inl is ↦ elim (cases_lt (total (k + 1)) (total k)) [
    | inl less ↦ absurd (here (subst (λ (x : ℕ). (contest_of contests x ≡ contest_of contests (x + 1)) × (total (x + 1) < total x)) is (same, less)))
    | inr le ↦ le
  ]
  | inr other ↦ so_far k (omega (arith, lt, other)) same
]
