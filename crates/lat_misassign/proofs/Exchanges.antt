-- The exchange of two contests with as many targets is a misassignment.
use Rattle.std.proofs.Common.{◌≡◌, ◌≤◌, ◌<◌, ◌+◌, ◌-◌, ◌&&◌, ◌⊎◌, ℕ, zero, suc, Bool, List, length, map, take, cond, if◌then◌else◌, count_by, refl, ap, sym, ◌∙◌, subst, inl, inr, nat_lt, nat_le, arith}
use Rattle.std.specs.Prelude.{◌==◌}
use Rattle.std.specs.List.{range_with_len}
use Rattle.std.proofs.lemmas.List.{take-take}
use Rattle.std.proofs.lemmas.List.FromFn.{length-map-range_with_len}
use Rattle.std.proofs.lemmas.List.Sums.{sum_by-cons, sum_by-take-le}
use Rattle.std.proofs.lemmas.Bool.{cases_lt, cases_order}
use Rattle.std.proofs.lemmas.Bool.Decides.{nat_tests}
use Rattle.lat_base.specs.declared.contest.Contest.{Contest}
use Rattle.lat_base.specs.Shape.{target_count, first_target, contest_at}
use Rattle.lat_base.specs.Misassignment.{IsMisassignment}
use Rattle.readings.proofs.Places.{first_next}
use Rattle.lat_misassign.specs.Sources.{AreSources, exchanged, contests_exchanged}
use Rattle.lemmas.proofs.Ranges.{one_in}

-- the numbers that f takes to t, where f is its own inverse
counted : (f : ℕ → ℕ) → ((u : ℕ) → f (f u) ≡ u) → (t a n : ℕ)
    → count_by (λ x. x == t) (map f (range_with_len a n))
    ≡ count_by (λ x. x == f t) (range_with_len a n)
counted f twice t a zero = refl
counted f twice t a (suc n) =
    let here : (f a == t) ≡ (a == f t) = grind (arith, nat_tests, twice a, twice t, ap f) in
    omega (
      arith,
      sum_by-cons (λ (x : ℕ). cond (x == t) 1 0) (f a) (map f (range_with_len (a + 1) n)),
      sum_by-cons (λ (x : ℕ). cond (x == f t) 1 0) a (range_with_len (a + 1) n),
      ap {B = ℕ} (λ (b : Bool). cond b 1 0) here,
      counted f twice t (a + 1) n,
    )

-- one that is its own inverse and stays below n
sources_of : (f : ℕ → ℕ) → ((u : ℕ) → f (f u) ≡ u) → (n : ℕ) → ((u : ℕ) → u < n → f u < n) → 1 ≤ n
    → n ≤ 256 → AreSources (map f (range_with_len 0 n))
sources_of f twice n within some few =
    let e = length-map-range_with_len f 0 n in
    record {
      some = omega (arith, e);
      few = omega (arith, e);
      is = subst (λ (m : ℕ). IsMisassignment m (map f (range_with_len 0 n))) (sym e)
          (record { long = e; once = λ t lt. counted f twice t 0 n ∙ one_in 0 n (f t) (omega arith) (omega (arith, within t lt)) });
    }

-- the exchange of two runs of targets
abbrev runs : ℕ → ℕ → ℕ → ℕ → ℕ → ℕ
runs a a2 b b2 u = if nat_le a u && nat_lt u a2 then b + (u - a) else if nat_le b u && nat_lt u b2 then a + (u - b) else u

in_first : (a a2 b b2 u : ℕ) → a ≤ u → u < a2 → runs a a2 b b2 u ≡ b + (u - a)
in_first a a2 b b2 u h k = grind (arith, nat_tests)

in_second : (a a2 b b2 u : ℕ) → a2 ≤ u ⊎ u < a → b ≤ u → u < b2 → runs a a2 b b2 u ≡ a + (u - b)
in_second a a2 b b2 u o h k = grind (arith, nat_tests)

in_none : (a a2 b b2 u : ℕ) → a2 ≤ u ⊎ u < a → b2 ≤ u ⊎ u < b → runs a a2 b b2 u ≡ u
in_none a a2 b b2 u o p = grind (arith, nat_tests)

-- the runs are one, or have no target in common
abbrev Apart : ℕ → ℕ → ℕ → ℕ → Type 0
Apart a a2 b b2 = (a ≡ b) ⊎ ((a2 ≤ b) ⊎ (b2 ≤ a))

inside : (a a2 u : ℕ) → ((a ≤ u) × (u < a2)) ⊎ ((a2 ≤ u) ⊎ (u < a))
inside a a2 u = elim (cases_lt u a) [
  | inl below ↦ inr (inr below)
  | inr above ↦ elim (cases_lt u a2) [
    | inl here ↦ inl (above, here)
    | inr past ↦ inr (inl past)
  ]
]

runs_back : (a b n u v w : ℕ) → runs a (a + n) b (b + n) u ≡ v → runs a (a + n) b (b + n) v ≡ w
    → w ≡ u → runs a (a + n) b (b + n) (runs a (a + n) b (b + n) u) ≡ u
runs_back a b n u v w there back same = ap (runs a (a + n) b (b + n)) there ∙ (back ∙ same)

first_twice : (a b n u : ℕ) → a ≤ u → u < a + n → Apart a (a + n) b (b + n)
    → runs a (a + n) b (b + n) (runs a (a + n) b (b + n) u) ≡ u
first_twice a b n u h k (inl e) =
    runs_back a b n u (b + (u - a)) (b + ((b + (u - a)) - a)) (in_first a (a + n) b (b + n) u h k) (in_first a (a + n) b (b + n) (b + (u - a)) (omega (arith, e)) (omega (arith, e))) (omega (arith, e))
first_twice a b n u h k (inr (inl o)) =
    runs_back a b n u (b + (u - a)) (a + ((b + (u - a)) - b)) (in_first a (a + n) b (b + n) u h k) (in_second a (a + n) b (b + n) (b + (u - a)) (inl (omega arith)) (omega arith) (omega arith)) (omega arith)
first_twice a b n u h k (inr (inr o)) =
    runs_back a b n u (b + (u - a)) (a + ((b + (u - a)) - b)) (in_first a (a + n) b (b + n) u h k) (in_second a (a + n) b (b + n) (b + (u - a)) (inr (omega arith)) (omega arith) (omega arith)) (omega arith)

rest_twice : (a b n u : ℕ) → (a + n ≤ u) ⊎ (u < a)
    → ((b ≤ u) × (u < b + n)) ⊎ ((b + n ≤ u) ⊎ (u < b))
    → runs a (a + n) b (b + n) (runs a (a + n) b (b + n) u) ≡ u
rest_twice a b n u o (inl q) =
    runs_back a b n u (a + (u - b)) (b + ((a + (u - b)) - a)) (in_second a (a + n) b (b + n) u o q.0 q.1) (in_first a (a + n) b (b + n) (a + (u - b)) (omega arith) (omega (arith, q.0, q.1))) (omega (arith, q.0))
rest_twice a b n u o (inr p) = runs_back a b n u u u (in_none a (a + n) b (b + n) u o p) (in_none a (a + n) b (b + n) u o p) refl

runs_twice : (a b n u : ℕ) → Apart a (a + n) b (b + n)
    → ((a ≤ u) × (u < a + n)) ⊎ ((a + n ≤ u) ⊎ (u < a))
    → runs a (a + n) b (b + n) (runs a (a + n) b (b + n) u) ≡ u
runs_twice a b n u apart (inl p) = first_twice a b n u p.0 p.1 apart
runs_twice a b n u apart (inr o) = rest_twice a b n u o (inside b (b + n) u)

-- and stays below the end of both
runs_below : (a b n all u : ℕ) → a + n ≤ all → b + n ≤ all → u < all
    → runs a (a + n) b (b + n) u < all
runs_below a b n all u h k lt = grind (arith, nat_tests)

later_first : (contests : List Contest) (k : ℕ) (c : ℕ) → c ≤ k
    → first_target contests c ≤ first_target contests k
later_first contests k c le =
    subst (λ (l : List Contest). target_count l ≤ first_target contests k) (take-take c k contests le) (sum_by-take-le (λ (x : Contest). x.targets) (take k contests) c)

contests_apart : (contests : List Contest) (c d : ℕ)
    → Apart (first_target contests c) (first_target contests (c + 1)) (first_target contests d)
    (first_target contests (d + 1))
contests_apart contests c d = elim (cases_order c d) [
  | inl e ↦ inl (ap (first_target contests) e)
  | inr o ↦ elim o [
    | inl lt ↦ inr (inl (later_first contests d (c + 1) (omega arith)))
    | inr gt ↦ inr (inr (later_first contests c (d + 1) (omega arith)))
  ]
]

-- an exchange that is its own inverse, among so many targets
abbrev Exchanges : ℕ → ℕ → ℕ → ℕ → ℕ → Type 0
Exchanges all a a2 b b2 = ((u : ℕ) → runs a a2 b b2 (runs a a2 b b2 u) ≡ u) × ((u : ℕ) → u < all → runs a a2 b b2 u < all)

exchanges : (all a a2 b b2 n : ℕ) → a2 ≡ a + n → b2 ≡ b + n → Apart a a2 b b2 → a2 ≤ all → b2 ≤ all
    → Exchanges all a a2 b b2
exchanges all a a2 b b2 n e f apart h k =
    subst (λ (x : ℕ). Exchanges all a x b b2) (sym e) (subst (λ (y : ℕ). Exchanges all a (a + n) b y) (sym f)
    ((
      λ u. runs_twice a b n u (subst (λ (x : ℕ). Apart a x b (b + n)) e (subst (λ (y : ℕ). Apart a a2 b y) f apart)) (inside a (a + n) u),
      λ u lt. runs_below a b n all u (omega (arith, e, h)) (omega (arith, f, k)) lt,
    )))

pub exchanged_sources : (contests : List Contest) (c d : ℕ) → c < length contests
    → d < length contests → (contest_at contests c).targets ≡ (contest_at contests d).targets
    → 1 ≤ target_count contests → target_count contests ≤ 256
    → AreSources (contests_exchanged contests c d)
exchanged_sources contests c d h k e some few =
    let parts = exchanges (target_count contests) (first_target contests c) (first_target contests (c + 1)) (first_target contests d) (first_target contests (d + 1)) (contest_at contests c).targets
    (first_next contests c h) (omega (arith, first_next contests d k, e)) (contests_apart contests c d)
    (sum_by-take-le (λ (x : Contest). x.targets) contests (c + 1)) (sum_by-take-le (λ (x : Contest). x.targets) contests (d + 1)) in
    sources_of (exchanged contests c d) parts.0 (target_count contests) parts.1 some few
