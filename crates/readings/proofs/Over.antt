-- Counts over the sources of a misassignment.
use Rattle.std.proofs.Common.{◌≡◌, ◌<◌, ◌+◌, ◌&&◌, ℕ, zero, suc, Bool, true, false, nat_lt, List, [], ◌∷◌, length, get_or, cond, count_by, refl, ap, sym, subst, ◌∙◌, arith}
use Rattle.std.specs.Prelude.{◌==◌}
use Rattle.std.specs.List.{range_with_len}
use Rattle.std.proofs.lemmas.List.Sums.{sum_by-cons}
use Rattle.std.proofs.lemmas.Bool.Decides.{nat_tests}
use Rattle.lat_base.specs.Misassignment.{IsMisassignment}
use Rattle.lemmas.proofs.Below.{one_more, none_below}
use Rattle.lemmas.proofs.Ranges.{count_more}
use Rattle.readings.proofs.Within.{within_of}

at_one : (g : ℕ → Bool) (x n : ℕ) (b : Bool) → (x == n) ≡ b → ◌≡◌ {A = ℕ} (cond (g x && b) 1 0) (cond (g n) (cond b 1 0) 0)
at_one g x n true h =
    let same : x ≡ n = grind (arith, nat_tests) in
    subst (λ (y : ℕ). ◌≡◌ {A = ℕ} (cond (g x && true) 1 0) (cond (g y) 1 0)) same (both (g x))
  where
    both : (b : Bool) → ◌≡◌ {A = ℕ} (cond (b && true) 1 0) (cond b 1 0)
    both true = refl
    both false = refl
at_one g x n false h = none (g x) (g n)
  where
    none : (a b : Bool) → ◌≡◌ {A = ℕ} (cond (a && false) 1 0) (cond b 0 0)
    none true true = refl
    none true false = refl
    none false true = refl
    none false false = refl

cond_sum : (b : Bool) (m n : ℕ) → cond b m 0 + cond b n 0 ≡ cond b (m + n) 0
cond_sum true m n = refl
cond_sum false m n = refl

pub at_all : (g : ℕ → Bool) (n : ℕ) (s : List ℕ)
    → count_by (λ x. g x && (x == n)) s ≡ cond (g n) (count_by (λ x. x == n) s) 0
at_all g n [] = none (g n)
  where
    none : (b : Bool) → ◌≡◌ {A = ℕ} 0 (cond b 0 0)
    none true = refl
    none false = refl
at_all g n (x ∷ s) =
    let a = sum_by-cons (λ (y : ℕ). cond (g y && (y == n)) 1 0) x s in
    let b = sum_by-cons (λ (y : ℕ). cond (y == n) 1 0) x s in
    let here = at_one g x n (x == n) refl in
    let sum = cond_sum (g n) (cond (x == n) 1 0) (count_by (λ x. x == n) s) in
    let whole = ap (λ (m : ℕ). cond (g n) m 0) b in
    omega (arith, a, here, at_all g n s, sum, whole)

part_below : (g : ℕ → Bool) (s : List ℕ) (n : ℕ) → ((t : ℕ) → t < n → count_by (λ x. x == t) s ≡ 1)
    → count_by (λ x. g x && nat_lt x n) s ≡ count_by g (range_with_len 0 n)
part_below g s zero h = none_below g s
part_below g s (suc n) h =
    let as_more : n + 1 ≡ suc n = omega arith in
    let last = ap (λ (m : ℕ). cond (g n) m 0) (h n (omega arith)) in
    subst (λ (m : ℕ). count_by (λ x. g x && nat_lt x m) s ≡ count_by g (range_with_len 0 m)) as_more
    (omega (arith, one_more g s n, at_all g n s, last, count_more g n, part_below g s n (λ t lt. h t (omega arith))))

all_below : (g : ℕ → Bool) (n : ℕ) (s : List ℕ) → ((i : ℕ) → i < length s → get_or s i 0 < n)
    → count_by (λ x. g x && nat_lt x n) s ≡ count_by g s
all_below g n [] h = refl
all_below g n (x ∷ s) h =
    let a = sum_by-cons (λ (y : ℕ). cond (g y && nat_lt y n) 1 0) x s in
    let b = sum_by-cons (λ (y : ℕ). cond (g y) 1 0) x s in
    let lt : x < n = h 0 (omega arith) in
    let yes : nat_lt x n ≡ true = grind (arith, nat_tests) in
    let here : ◌≡◌ {A = ℕ} (cond (g x && nat_lt x n) 1 0) (cond (g x) 1 0) = ap (λ (t : Bool). cond (g x && t) 1 0) yes ∙ both (g x) in
    omega (arith, a, b, here, all_below g n s (λ i k. h (suc i) (omega arith)))
  where
    both : (b : Bool) → ◌≡◌ {A = ℕ} (cond (b && true) 1 0) (cond b 1 0)
    both true = refl
    both false = refl

-- a misassignment has each target once
pub count_over : (g : ℕ → Bool) (n : ℕ) (s : List ℕ) → IsMisassignment n s
    → count_by g s ≡ count_by g (range_with_len 0 n)
count_over g n s is = sym (all_below g n s (λ i k. within_of n s is i 0 k)) ∙ part_below g s n is.once
