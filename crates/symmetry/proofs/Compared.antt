-- Lists that are compared element by element.
use Rattle.std.proofs.Common.{◌≡◌, ◌≢◌, ◌<◌, ◌≤◌, ◌+◌, ℕ, Bool, true, false, nat_lt, List, length, get_or, drop, IsTrue, ◌↔◌, refl, ap, sym, subst, ◌∙◌, arith}
use Rattle.std.specs.Ordering.{nat_cmp, bool_cmp, ordering_then}
use Rattle.std.specs.Cmp.Lexicographic.{slice_cmp}
use Rattle.std.specs.declared.cmp.Ordering.{Ordering}
use Rattle.std.specs.declared.cmp.Ordering.TheVariants.{Less, Equal, Greater}
use Rattle.std.proofs.lemmas.List.{drop_more, drop_all}
use Rattle.std.proofs.lemmas.List.FromFn.{length-map-range_with_len, get_or-map-range_with_len}
use Rattle.std.proofs.lemmas.Bool.Decides.{nat_tests}
use Rattle.lat_base.specs.declared.contest.Contest.{Contest}
use Rattle.lat_base.specs.Shape.{first_target, contest_at}
use Rattle.symmetry.specs.Order.{totals_of, compare_totals}

-- how two lists compare from place i on
pub compared_at : {X : Type 0} (R : X → X → Ordering) (xs ys : List X) (i : ℕ) (d : X)
    → i < length xs → i < length ys
    → slice_cmp R (drop i xs) (drop i ys)
    ≡ ordering_then (R (get_or xs i d) (get_or ys i d))
    (slice_cmp R (drop (i + 1) xs) (drop (i + 1) ys))
compared_at {X} R xs ys i d h k = λ j. slice_cmp R (drop_more xs i d h j) (drop_more ys i d k j)

-- lists that are the same to their ends are equal
pub compared_end : {X : Type 0} (R : X → X → Ordering) (xs ys : List X) (i : ℕ) → length xs ≤ i
    → length ys ≤ i → slice_cmp R (drop i xs) (drop i ys) ≡ Equal
compared_end {X} R xs ys i h k = λ j. slice_cmp R (drop_all i xs h j) (drop_all i ys k j)

same_bool : (x y : Bool) → x ≡ y → bool_cmp x y ≡ Equal
same_bool true true e = refl
same_bool true false e = cc
same_bool false true e = cc
same_bool false false e = refl

-- marks that are the same leave the rest to compare
pub marks_same : (xs ys : List Bool) (i : ℕ) (x y : Bool) → i < length xs → i < length ys
    → x ≡ get_or xs i false → y ≡ get_or ys i false → x ≡ y
    → slice_cmp bool_cmp (drop (i + 1) xs) (drop (i + 1) ys)
    ≡ slice_cmp bool_cmp (drop i xs) (drop i ys)
marks_same xs ys i x y h k at_x at_y same =
    sym (compared_at bool_cmp xs ys i false h k ∙ ap (λ (o : Ordering). ordering_then o (slice_cmp bool_cmp (drop (i + 1) xs) (drop (i + 1) ys))) (same_bool (get_or xs i false) (get_or ys i false) (sym at_x ∙ (same ∙ at_y))))

-- marks that differ decide
pub marks_differ : (xs ys : List Bool) (i : ℕ) (x y : Bool) → i < length xs → i < length ys
    → x ≡ get_or xs i false → y ≡ get_or ys i false → x ≢ y
    → IsTrue y ↔ (slice_cmp bool_cmp (drop i xs) (drop i ys) ≡ Less)
marks_differ xs ys i x y h k at_x at_y other =
    subst (λ (o : Ordering). IsTrue y ↔ (o ≡ Less)) (sym (compared_at bool_cmp xs ys i false h k))
    (subst (λ (b : Bool). IsTrue y ↔ (ordering_then (bool_cmp b (get_or ys i false)) (slice_cmp bool_cmp (drop (i + 1) xs) (drop (i + 1) ys)) ≡ Less)) at_x
    (subst (λ (b : Bool). IsTrue y ↔ (ordering_then (bool_cmp x b) (slice_cmp bool_cmp (drop (i + 1) xs) (drop (i + 1) ys)) ≡ Less)) at_y
    (by_marks x y other (slice_cmp bool_cmp (drop (i + 1) xs) (drop (i + 1) ys)))))
  where
    by_marks : (x y : Bool) → x ≢ y → (rest : Ordering)
        → IsTrue y ↔ (ordering_then (bool_cmp x y) rest ≡ Less)
    by_marks true true other rest = absurd (other refl)
    by_marks true false other rest = (λ e. cc, λ e. cc)
    by_marks false true other rest = (λ e. refl, λ e. refl)
    by_marks false false other rest = absurd (other refl)

totals_long : (contests : List Contest) (total : ℕ → ℕ) (c : ℕ)
    → length (totals_of contests total c) ≡ (contest_at contests c).targets
totals_long contests total c = length-map-range_with_len total (first_target contests c) (contest_at contests c).targets

totals_nth : (contests : List Contest) (total : ℕ → ℕ) (c i : ℕ)
    → i < (contest_at contests c).targets
    → get_or (totals_of contests total c) i 0 ≡ total (first_target contests c + i)
totals_nth contests total c i lt = get_or-map-range_with_len total (first_target contests c) (contest_at contests c).targets i (first_target contests c + i) 0 lt refl

-- how the totals of two contests compare from target number i on
abbrev pub compare_from : List Contest → (ℕ → ℕ) → ℕ → ℕ → ℕ → Ordering
compare_from contests total c d i = slice_cmp nat_cmp (drop i (totals_of contests total c)) (drop i (totals_of contests total d))

from_nth : (contests : List Contest) (total : ℕ → ℕ) (c d i : ℕ)
    → contest_at contests c ≡ contest_at contests d → i < (contest_at contests c).targets
    → compare_from contests total c d i
    ≡ ordering_then (nat_cmp (total (first_target contests c + i))
    (total (first_target contests d + i))) (compare_from contests total c d (i + 1))
from_nth contests total c d i shape lt =
    let as_many : (contest_at contests c).targets ≡ (contest_at contests d).targets = ap (λ (x : Contest). x.targets) shape in
    let lt_d : i < (contest_at contests d).targets = omega (arith, lt, as_many) in
    compared_at nat_cmp (totals_of contests total c) (totals_of contests total d) i 0 (omega (arith, lt, totals_long contests total c)) (omega (arith, lt_d, totals_long contests total d))
    ∙ (λ j. ordering_then (nat_cmp (totals_nth contests total c i lt j) (totals_nth contests total d i lt_d j)) (compare_from contests total c d (i + 1)))

-- totals that are the same leave the rest to compare
totals_same : (contests : List Contest) (total : ℕ → ℕ) (c d i : ℕ)
    → contest_at contests c ≡ contest_at contests d → i < (contest_at contests c).targets
    → total (first_target contests c + i) ≡ total (first_target contests d + i)
    → compare_from contests total c d (i + 1) ≡ compare_from contests total c d i
totals_same contests total c d i shape lt same =
    let equal : nat_cmp (total (first_target contests c + i)) (total (first_target contests d + i)) ≡ Equal = grind (arith, nat_tests, same) in
    sym (from_nth contests total c d i shape lt ∙ ap (λ (o : Ordering). ordering_then o (compare_from contests total c d (i + 1))) equal)

-- totals that differ decide
totals_differ : (contests : List Contest) (total : ℕ → ℕ) (c d i : ℕ)
    → contest_at contests c ≡ contest_at contests d → i < (contest_at contests c).targets
    → total (first_target contests c + i) ≢ total (first_target contests d + i)
    → IsTrue (nat_lt (total (first_target contests d + i)) (total (first_target contests c + i)))
    ↔ (compare_from contests total c d i ≡ Greater)
totals_differ contests total c d i shape lt other =
    subst (λ (o : Ordering). IsTrue (nat_lt (total (first_target contests d + i)) (total (first_target contests c + i))) ↔ (o ≡ Greater)) (sym (from_nth contests total c d i shape lt))
    (by_totals (total (first_target contests c + i)) (total (first_target contests d + i)) other (compare_from contests total c d (i + 1)))
  where
    by_totals : (x y : ℕ) → x ≢ y → (rest : Ordering)
        → IsTrue (nat_lt y x) ↔ (ordering_then (nat_cmp x y) rest ≡ Greater)
    by_totals x y other rest = by_test (nat_lt y x) refl
      where
        by_test : (b : Bool) → nat_lt y x ≡ b
            → IsTrue (nat_lt y x) ↔ (ordering_then (nat_cmp x y) rest ≡ Greater)
        by_test true e =
            let is : nat_cmp x y ≡ Greater = grind (arith, nat_tests, e, other) in
            (λ h. ap (λ (o : Ordering). ordering_then o rest) is, λ h. e)
        by_test false e =
            let is : nat_cmp x y ≡ Less = grind (arith, nat_tests, e, other) in
            (λ h. absurd (cc), λ h. absurd (cc))

-- contests whose totals are the same to the end
totals_end : (contests : List Contest) (total : ℕ → ℕ) (c d i : ℕ)
    → contest_at contests c ≡ contest_at contests d → (contest_at contests c).targets ≤ i
    → compare_from contests total c d i ≡ Equal
totals_end contests total c d i shape le =
    let as_many : (contest_at contests c).targets ≡ (contest_at contests d).targets = ap (λ (x : Contest). x.targets) shape in
    compared_end nat_cmp (totals_of contests total c) (totals_of contests total d) i (omega (arith, le, totals_long contests total c)) (omega (arith, le, as_many, totals_long contests total d))

-- with totals that differ the test is decided
pub decided : (contests : List Contest) (total : ℕ → ℕ) (c d i x y : ℕ)
    → contest_at contests c ≡ contest_at contests d → i < (contest_at contests c).targets
    → x ≡ total (first_target contests c + i) → y ≡ total (first_target contests d + i) → x ≢ y
    → compare_from contests total c d i ≡ compare_totals contests total c d
    → IsTrue (nat_lt y x) ↔ (compare_totals contests total c d ≡ Greater)
decided contests total c d i x y shape lt at_x at_y other so_far =
    subst (λ (o : Ordering). IsTrue (nat_lt y x) ↔ (o ≡ Greater)) so_far
    (subst (λ (m : ℕ). IsTrue (nat_lt m x) ↔ (compare_from contests total c d i ≡ Greater)) (sym at_y)
    (subst (λ (m : ℕ). IsTrue (nat_lt (total (first_target contests d + i)) m) ↔ (compare_from contests total c d i ≡ Greater)) (sym at_x)
    (totals_differ contests total c d i shape lt (λ e. absurd (other (at_x ∙ (e ∙ sym at_y)))))))

-- with equal ones it goes on
pub further : (contests : List Contest) (total : ℕ → ℕ) (c d i x y : ℕ)
    → contest_at contests c ≡ contest_at contests d → i < (contest_at contests c).targets
    → x ≡ total (first_target contests c + i) → y ≡ total (first_target contests d + i) → x ≡ y
    → compare_from contests total c d i ≡ compare_totals contests total c d
    → compare_from contests total c d (i + 1) ≡ compare_totals contests total c d
further contests total c d i x y shape lt at_x at_y same so_far = totals_same contests total c d i shape lt (sym at_x ∙ (same ∙ at_y)) ∙ so_far

-- and at the end none is greater
pub ended : (contests : List Contest) (total : ℕ → ℕ) (c d i : ℕ)
    → contest_at contests c ≡ contest_at contests d → (contest_at contests c).targets ≤ i
    → compare_from contests total c d i ≡ compare_totals contests total c d
    → IsTrue false ↔ (compare_totals contests total c d ≡ Greater)
ended contests total c d i shape le so_far =
    let equal = totals_end contests total c d i shape le in
    (λ h. cc, λ h. absurd (cc))
