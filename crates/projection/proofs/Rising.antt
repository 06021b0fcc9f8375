-- Lists of rising numbers, and the parts of a style that they choose.
use Rattle.std.proofs.Common.{◌≡◌, ◌<◌, ◌≤◌, ◌+◌, ◌-◌, ℕ, zero, suc, Bool, true, false, not, nat_lt, nat_le, List, [], ◌∷◌, length, get_or, cond, Option, Some, None, is_some, refl, sym, subst, arith, All, inl, inr}
use Rattle.std.specs.Prelude.{◌==◌}
use Rattle.std.specs.List.Sorted.{IsStrictlyIncreasing}
use Rattle.std.proofs.lemmas.Bool.{cases_lt}
use Rattle.std.proofs.lemmas.Bool.Decides.{nat_tests}
use Rattle.std.proofs.lemmas.List.{length-map}
use Rattle.std.proofs.lemmas.List.Sums.{sum_by-cons}
use Rattle.std.proofs.lemmas.List.Elements.{All-head, All-tail}
use Rattle.lat_base.specs.declared.contest.Contest.{Contest}
use Rattle.lat_base.specs.Shape.{target_count, first_target, contest_at, no_contest, IsShape}
use Rattle.lat_base.specs.declared.limits.TheConstants.{MOST_IN_CONTEST, MOST_VOTES}
use Rattle.lat_base.specs.ShapeFault.{shape_fault, contest_fault, is_up_to}
use Rattle.lat_base.specs.Part.{IsPart, part}
use Rattle.readings.proofs.Places.{first_next, first_mono, first_le}
use Rattle.projection.specs.declared.part_fault.PartFault.TheVariants.{OutOfRange, NotRising}
use Rattle.projection.specs.PartFault.{place_fault}

-- rising numbers from least on, below n
abbrev pub Rises : ℕ → ℕ → List ℕ → Type 0
Rises n least [] = Unit
Rises n least (c ∷ chosen) = (least ≤ c) × (c < n) × Rises n (c + 1) chosen

-- where no place is bad, the numbers rise
pub rises : (n i least : ℕ) (chosen : List ℕ) → place_fault n i least chosen ≡ None
    → Rises n least chosen
rises n i least [] h = tt
rises n i least (c ∷ chosen) h = by_test (nat_le n c) (nat_lt c least) refl refl h (rises n (i + 1) (c + 1) chosen)
  where
    by_test : (x y : Bool) → nat_le n c ≡ x → nat_lt c least ≡ y
        → cond x (Some (OutOfRange i))
        (cond y (Some (NotRising i)) (place_fault n (i + 1) (c + 1) chosen)) ≡ None
        → (place_fault n (i + 1) (c + 1) chosen ≡ None → Rises n (c + 1) chosen)
        → (least ≤ c) × (c < n) × Rises n (c + 1) chosen
    by_test true y e f h more = cc
    by_test false true e f h more = cc
    by_test false false e f h more = (grind (arith, nat_tests, f), grind (arith, nat_tests, e), more h)

risen_within : (n least : ℕ) (chosen : List ℕ) → Rises n least chosen → All (λ c. c < n) chosen
risen_within n least [] h k d lt = absurd (omega (arith, lt))
risen_within n least (c ∷ chosen) h zero d lt = h.1
risen_within n least (c ∷ chosen) h (suc k) d lt = risen_within n (c + 1) chosen h.2 k d (omega (arith, lt))

risen_from : (n least : ℕ) (chosen : List ℕ) → Rises n least chosen → 0 < length chosen
    → least ≤ get_or chosen 0 0
risen_from n least [] h some = absurd (omega (arith, some))
risen_from n least (c ∷ chosen) h some = h.0

risen_increasing : (n least : ℕ) (chosen : List ℕ) → Rises n least chosen
    → IsStrictlyIncreasing chosen
risen_increasing n least [] h k lt = absurd (omega (arith, lt))
risen_increasing n least (c ∷ chosen) h zero lt = omega (arith, risen_from n (c + 1) chosen h.2 (omega (arith, lt)))
risen_increasing n least (c ∷ chosen) h (suc k) lt =
    let next : suc k + 1 ≡ suc (k + 1) = omega arith in
    subst (λ (m : ℕ). get_or chosen k 0 < get_or (c ∷ chosen) m 0) (sym next) (risen_increasing n (c + 1) chosen h.2 k (omega (arith, lt)))

-- a part rises
rising_from : (n least : ℕ) (chosen : List ℕ) → All (λ c. c < n) chosen
    → IsStrictlyIncreasing chosen → (0 < length chosen → least ≤ get_or chosen 0 0)
    → Rises n least chosen
rising_from n least [] within rising from = tt
rising_from n least (c ∷ chosen) within rising from = (
  from (omega arith),
  All-head (λ (x : ℕ). x < n) c chosen within,
  rising_from n (c + 1) chosen (All-tail (λ (x : ℕ). x < n) c chosen within)
      (λ k lt. let next : suc k + 1 ≡ suc (k + 1) = omega arith in subst (λ (m : ℕ). get_or chosen k 0 < get_or (c ∷ chosen) m 0) next (rising (suc k) (omega (arith, lt))))
      (λ some. omega (arith, rising 0 (omega (arith, some)))),
)

pub part_rises : (contests : List Contest) (chosen : List ℕ) → IsPart contests chosen
    → Rises (length contests) 0 chosen
part_rises contests chosen is = rising_from (length contests) 0 chosen is.within is.rising (λ some. omega arith)

-- a list in which nothing is wrong is a part
pub sound_part : (contests : List Contest) (chosen : List ℕ) → (length chosen == 0) ≡ false
    → place_fault (length contests) 0 0 chosen ≡ None → IsPart contests chosen
sound_part contests chosen empty h =
    let up = rises (length contests) 0 0 chosen h in
    let some : 0 < length chosen = grind (arith, nat_tests, empty) in
    record { some = some; within = risen_within (length contests) 0 chosen up; rising = risen_increasing (length contests) 0 chosen up }

few_risen : (n least : ℕ) (chosen : List ℕ) → Rises n least chosen → least ≤ n
    → least + length chosen ≤ n
few_risen n least [] h le = omega (arith, le)
few_risen n least (c ∷ chosen) h le = omega (arith, few_risen n (c + 1) chosen h.2 (omega (arith, h.1)), h.0)

targets_left : (contests : List Contest) (least : ℕ) (chosen : List ℕ)
    → Rises (length contests) least chosen
    → first_target contests least + target_count (part contests chosen) ≤ target_count contests
targets_left contests least [] h = omega (arith, first_le contests least)
targets_left contests least (c ∷ chosen) h =
    omega (arith, targets_left contests (c + 1) chosen h.2, first_next contests c h.1, first_mono contests least c h.0 (omega (arith, h.1)), sum_by-cons (λ (x : Contest). x.targets) (contest_at contests c) (part contests chosen))

no_contest_fault : (contests : List Contest) (i : ℕ) (chosen : List ℕ) → IsShape contests
    → All (λ c. c < length contests) chosen → contest_fault i (part contests chosen) ≡ None
no_contest_fault contests i [] is within = refl
no_contest_fault contests i (c ∷ chosen) is within =
    let c_in = All-head (λ (x : ℕ). x < length contests) c chosen within in
    let limit = is.limits c no_contest c_in in
    let count = is.counts c no_contest c_in in
    let first : not (is_up_to MOST_VOTES (contest_at contests c).limit) ≡ false = grind (arith, nat_tests, limit.0, limit.1) in
    let second : not (is_up_to MOST_IN_CONTEST (contest_at contests c).targets) ≡ false = grind (arith, nat_tests, count.0, count.1) in
    neither _ _ (contest_fault (i + 1) (part contests chosen)) (not (is_up_to MOST_VOTES (contest_at contests c).limit)) (not (is_up_to MOST_IN_CONTEST (contest_at contests c).targets)) first second (no_contest_fault contests (i + 1) chosen is (All-tail (λ (x : ℕ). x < length contests) c chosen within))
  where
    neither : {A : Type 0} (p q : A) (rest : Option A) (x y : Bool) → x ≡ false → y ≡ false
        → rest ≡ None → cond x (Some p) (cond y (Some q) rest) ≡ None
    neither p q rest true y e f h = cc
    neither p q rest false true e f h = cc
    neither p q rest false false e f h = h

-- a part of a style is a style
pub part_shape : (contests : List Contest) (chosen : List ℕ) → IsShape contests
    → IsPart contests chosen → shape_fault (part contests chosen) ≡ None
part_shape contests chosen is chose =
    let up = part_rises contests chosen chose in
    let long : length (part contests chosen) ≡ length chosen = length-map chosen (contest_at contests) in
    let some : (length (part contests chosen) == 0) ≡ false = let h = chose.some in grind (arith, nat_tests, long, h) in
    let few : nat_lt 128 (length (part contests chosen)) ≡ false = let h = few_risen (length contests) 0 chosen up (omega arith) in let f = is.few in grind (arith, nat_tests, long, h, f) in
    let sum : nat_lt 256 (target_count (part contests chosen)) ≡ false = let h = targets_left contests 0 chosen up in let f = is.few_targets in grind (arith, nat_tests, h, f) in
    let each = no_contest_fault contests 0 chosen is chose.within in
    all_fit _ _ _ (length (part contests chosen) == 0) (nat_lt 128 (length (part contests chosen))) (nat_lt 256 (target_count (part contests chosen))) (contest_fault 0 (part contests chosen)) some few sum each
  where
    all_fit : {A : Type 0} (p q r : A) (x y z : Bool) (o : Option A) → x ≡ false → y ≡ false
        → z ≡ false → o ≡ None → cond x (Some p)
        (cond y (Some q) (cond (is_some o) o (cond z (Some r) None))) ≡ None
    all_fit p q r true y z o e f g h = cc
    all_fit p q r false true z o e f g h = cc
    all_fit p q r false false true o e f g h = cc
    all_fit p q r false false false None e f g h = refl
    all_fit p q r false false false (Some x) e f g h = cc

-- of a rising list the earlier element is less
less_later : (chosen : List ℕ) → IsStrictlyIncreasing chosen → (d q : ℕ) → q + 1 + d < length chosen
    → get_or chosen q 0 < get_or chosen (q + 1 + d) 0
less_later chosen rising zero q lt =
    let end : q + 1 + 0 ≡ q + 1 = omega arith in
    subst (λ (m : ℕ). get_or chosen q 0 < get_or chosen m 0) (sym end) (rising q (omega (arith, lt)))
less_later chosen rising (suc d) q lt =
    let end : q + 1 + suc d ≡ q + 1 + d + 1 = omega arith in
    let before = less_later chosen rising d q (omega (arith, lt)) in
    let last = rising (q + 1 + d) (omega (arith, lt)) in
    subst (λ (m : ℕ). get_or chosen q 0 < get_or chosen m 0) (sym end) (omega (arith, before, last))

-- a contest stands in a part once
pub chosen_once : (chosen : List ℕ) → IsStrictlyIncreasing chosen → (p q : ℕ) → p < length chosen
    → q < length chosen → get_or chosen p 0 ≡ get_or chosen q 0 → p ≡ q
chosen_once chosen rising p q p_in q_in same = elim (cases_lt p q) [
  | inl lt ↦
      let e : p + 1 + (q - (p + 1)) ≡ q = omega (arith, lt) in
      let less = subst (λ (m : ℕ). get_or chosen p 0 < get_or chosen m 0) e (less_later chosen rising (q - (p + 1)) p (omega (arith, lt, q_in))) in
      absurd (omega (arith, less, same))
  | inr le ↦ elim (cases_lt q p) [
    | inl lt ↦
        let e : q + 1 + (p - (q + 1)) ≡ p = omega (arith, lt) in
        let less = subst (λ (m : ℕ). get_or chosen q 0 < get_or chosen m 0) e (less_later chosen rising (p - (q + 1)) q (omega (arith, lt, p_in))) in
        absurd (omega (arith, less, same))
    | inr ge ↦ omega (arith, le, ge)
  ]
]

-- a part has at most as many targets as a style may have
pub part_few_targets : (contests : List Contest) (chosen : List ℕ) → IsShape contests
    → IsPart contests chosen → target_count (part contests chosen) ≤ 256
part_few_targets contests chosen shape is = omega (arith, targets_left contests 0 chosen (part_rises contests chosen is), shape.few_targets)

-- and at most as many contests
pub part_few : (contests : List Contest) (chosen : List ℕ) → IsShape contests
    → IsPart contests chosen → length (part contests chosen) ≤ 128
part_few contests chosen is chose = omega (arith, few_risen (length contests) 0 chosen (part_rises contests chosen chose) (omega arith), is.few, length-map chosen (contest_at contests))
