-- How many numbers of a list are below a number.
use Rattle.std.proofs.Common.{◌≡◌, ◌<◌, ◌+◌, ◌&&◌, ℕ, zero, suc, Bool, true, false, nat_lt, List, [], ◌∷◌, cond, count_by, refl, ap, ◌∙◌, arith}
use Rattle.std.specs.Prelude.{◌==◌}
use Rattle.std.proofs.lemmas.List.Sums.{sum_by-cons}
use Rattle.std.proofs.lemmas.Bool.Decides.{nat_tests}

-- no number is below 0
pub none_below : (g : ℕ → Bool) (s : List ℕ) → count_by (λ x. g x && nat_lt x 0) s ≡ 0
none_below g [] = refl
none_below g (x ∷ s) =
    let a = sum_by-cons (λ (y : ℕ). cond (g y && nat_lt y 0) 1 0) x s in
    let here : ◌≡◌ {A = ℕ} (cond (g x && nat_lt x 0) 1 0) 0 = by_test (g x) in
    omega (arith, a, here, none_below g s)
  where
    by_test : (b : Bool) → ◌≡◌ {A = ℕ} (cond (b && nat_lt x 0) 1 0) 0
    by_test true = grind (arith, nat_tests)
    by_test false = refl

split_more : (b : Bool) (x n : ℕ) → ◌≡◌ {A = ℕ} (cond (b && nat_lt x (n + 1)) 1 0) (cond (b && nat_lt x n) 1 0 + cond (b && (x == n)) 1 0)
split_more true x n = grind (arith, nat_tests)
split_more false x n = refl

-- those below n + 1 are those below n and those that are n
pub one_more : (g : ℕ → Bool) (s : List ℕ) (n : ℕ)
    → count_by (λ x. g x && nat_lt x (n + 1)) s
    ≡ count_by (λ x. g x && nat_lt x n) s + count_by (λ x. g x && (x == n)) s
one_more g [] n = refl
one_more g (x ∷ s) n =
    let a = sum_by-cons (λ (y : ℕ). cond (g y && nat_lt y (n + 1)) 1 0) x s in
    let b = sum_by-cons (λ (y : ℕ). cond (g y && nat_lt y n) 1 0) x s in
    let e = sum_by-cons (λ (y : ℕ). cond (g y && (y == n)) 1 0) x s in
    omega (arith, a, b, e, split_more (g x) x n, one_more g s n)

below_suc : (s : List ℕ) (n : ℕ)
    → count_by (λ x. nat_lt x (suc n)) s ≡ count_by (λ x. nat_lt x n) s + count_by (λ x. x == n) s
below_suc s n = ap (λ (m : ℕ). count_by (λ x. nat_lt x m) s) (omega arith) ∙ one_more (λ x. true) s n

-- where each number below n stands once, n are below n
pub below_count : (s : List ℕ) (n : ℕ) → ((t : ℕ) → t < n → count_by (λ x. x == t) s ≡ 1)
    → count_by (λ x. nat_lt x n) s ≡ n
below_count s zero h = none_below (λ x. true) s
below_count s (suc n) h = below_suc s n ∙ omega (arith, below_count s n (λ t lt. h t (omega arith)), h n (omega arith))
