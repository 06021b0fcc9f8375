-- Where the targets of a contest lie.
use Rattle.std.proofs.Common.{◌≡◌, ◌≤◌, ◌<◌, ◌+◌, ◌-◌, ℕ, zero, suc, Bool, true, false, nat_lt, List, [], ◌∷◌, length, take, cond, refl, ap, arith}
use Rattle.std.proofs.lemmas.List.Sums.{sum_by-cons, sum_by-take-le, sum_by_more}
use Rattle.std.proofs.lemmas.Bool.Decides.{nat_tests}
use Rattle.lat_base.specs.declared.contest.Contest.{Contest}
use Rattle.lat_base.specs.Shape.{target_count, first_target, contest_at, contest_of, no_contest}

-- the next contest begins behind the targets of this one
pub first_next : (contests : List Contest) (c : ℕ) → c < length contests
    → first_target contests (c + 1) ≡ first_target contests c + (contest_at contests c).targets
first_next contests c h = sum_by_more (λ (x : Contest). x.targets) contests c no_contest h

-- no contest begins behind the last target
pub first_le : (contests : List Contest) (c : ℕ) → first_target contests c ≤ target_count contests
first_le contests c = sum_by-take-le (λ x. x.targets) contests c

-- target t is of contest c: what `contest_of` answers
pub record IsOf (contests : List Contest) (c t : ℕ) : Type 0 where
  pub contest : c < length contests
  pub from : first_target contests c ≤ t
  pub to : t < first_target contests (c + 1)

first_cons : (x : Contest) (contests : List Contest) (c : ℕ)
    → first_target (x ∷ contests) (suc c) ≡ x.targets + first_target contests c
first_cons x contests c = sum_by-cons (λ (y : Contest). y.targets) x (take c contests)

-- each target lies in its contest
pub is_of : (contests : List Contest) (t : ℕ) → t < target_count contests
    → IsOf contests (contest_of contests t) t
is_of [] t h = absurd (omega (arith, h))
is_of (x ∷ contests) t h = by_test (nat_lt t x.targets) refl (λ le. is_of contests (t - x.targets) (omega (arith, le, h, sum_by-cons (λ (y : Contest). y.targets) x contests)))
  where
    by_test : (b : Bool) → nat_lt t x.targets ≡ b
        → (x.targets ≤ t → IsOf contests (contest_of contests (t - x.targets)) (t - x.targets))
        → IsOf (x ∷ contests) (cond b 0 (suc (contest_of contests (t - x.targets)))) t
    by_test true e more =
        let lt : t < x.targets = grind (arith, nat_tests, e) in
        record { contest = omega arith; from = omega arith; to = omega (arith, lt) }
    by_test false e more =
        let le : x.targets ≤ t = grind (arith, nat_tests, e) in
        let deeper = more le in
        let one : suc (contest_of contests (t - x.targets)) + 1 ≡ suc (contest_of contests (t - x.targets) + 1) = omega arith in
        record {
          contest = omega (arith, deeper.contest);
          from = omega (arith, le, deeper.from, first_cons x contests (contest_of contests (t - x.targets)));
          to = omega (arith, le, deeper.to, first_cons x contests (contest_of contests (t - x.targets) + 1), ap (first_target (x ∷ contests)) one);
        }

firsts_rise : (contests : List Contest) (c d : ℕ) → c + d ≤ length contests
    → first_target contests c ≤ first_target contests (c + d)
firsts_rise contests c zero h = omega (arith, ap (first_target contests) (the_same c))
  where
    the_same : (n : ℕ) → n + 0 ≡ n
    the_same n = omega arith
firsts_rise contests c (suc d) h =
    let e : c + suc d ≡ c + d + 1 = omega arith in
    omega (arith, firsts_rise contests c d (omega (arith, h)), first_next contests (c + d) (omega (arith, h)), ap (first_target contests) e)

-- a later contest begins no earlier
pub first_mono : (contests : List Contest) (c d : ℕ) → c ≤ d → d ≤ length contests
    → first_target contests c ≤ first_target contests d
first_mono contests c d h k =
    let e : c + (d - c) ≡ d = omega (arith, h) in
    omega (arith, firsts_rise contests c (d - c) (omega (arith, h, k)), ap (first_target contests) e)

-- a target lies in one contest alone
pub of_one : (contests : List Contest) (c d t : ℕ) → IsOf contests c t → IsOf contests d t → c ≡ d
of_one contests c d t a b = by_order (nat_lt c d) (nat_lt d c) refl refl
  where
    by_order : (x y : Bool) → nat_lt c d ≡ x → nat_lt d c ≡ y → c ≡ d
    by_order true y e f =
        let lt : c + 1 ≤ d = grind (arith, nat_tests, e) in
        absurd (omega (arith, first_mono contests (c + 1) d lt (omega (arith, b.contest)), a.to, b.from))
    by_order false true e f =
        let lt : d + 1 ≤ c = grind (arith, nat_tests, f) in
        absurd (omega (arith, first_mono contests (d + 1) c lt (omega (arith, a.contest)), b.to, a.from))
    by_order false false e f = grind (arith, nat_tests, e, f)

-- a target that lies in a contest is of it
pub contest_is : (contests : List Contest) (c t : ℕ) → IsOf contests c t → contest_of contests t ≡ c
contest_is contests c t a = of_one contests (contest_of contests t) c t (is_of contests t (omega (arith, a.to, first_le contests (c + 1)))) a

-- the i-th target of a contest is of it
pub nth_is_of : (contests : List Contest) (c i : ℕ) → c < length contests
    → i < (contest_at contests c).targets → IsOf contests c (first_target contests c + i)
nth_is_of contests c i h k = record { contest = h; from = omega arith; to = omega (arith, first_next contests c h, k) }

-- a contest's targets are among the style's
pub nth_within : (contests : List Contest) (c i : ℕ) → c < length contests
    → i < (contest_at contests c).targets → first_target contests c + i < target_count contests
nth_within contests c i h k = omega (arith, first_next contests c h, first_le contests (c + 1), k)
