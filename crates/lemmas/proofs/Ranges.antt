-- Ranges of numbers.
use Rattle.std.proofs.Common.{◌≡◌, ◌≤◌, ◌<◌, ◌+◌, ◌++◌, ℕ, zero, suc, Bool, true, false, List, [], ◌∷◌, cond, count_by, sum_by, map, refl, ap, sym, subst, ◌∙◌, arith}
use Rattle.std.specs.Prelude.{◌==◌}
use Rattle.std.specs.List.{range_with_len}
use Rattle.std.proofs.lemmas.List.{map-append}
use Rattle.std.proofs.lemmas.List.Sums.{sum_by-cons, sum_by_push}
use Rattle.std.proofs.lemmas.Bool.Decides.{nat_tests}

-- a range with one more number
pub range_suc : (a n : ℕ) → range_with_len a (suc n) ≡ range_with_len a n ++ (a + n) ∷ []
range_suc a zero = ap (λ (m : ℕ). m ∷ []) (omega arith)
range_suc a (suc n) = ap (λ (xs : List ℕ). a ∷ xs) (range_suc (a + 1) n ∙ ap (λ (m : ℕ). range_with_len (a + 1) n ++ m ∷ []) (omega arith))

-- the numbers below n + 1 are those below n, and n
pub range_more : (n : ℕ) → range_with_len 0 (n + 1) ≡ range_with_len 0 n ++ n ∷ []
range_more n =
    let next : n + 1 ≡ suc n = omega arith in
    let here : 0 + n ≡ n = omega arith in
    ap (range_with_len 0) next ∙ (range_suc 0 n ∙ ap (λ (m : ℕ). range_with_len 0 n ++ m ∷ []) here)

-- a list made from the numbers below n + 1
pub made_more : {X : Type 0} (f : ℕ → X) (n : ℕ)
    → map f (range_with_len 0 (n + 1)) ≡ map f (range_with_len 0 n) ++ f n ∷ []
made_more f n = ap (map f) (range_more n) ∙ map-append f (range_with_len 0 n) (n ∷ [])

-- a count over the numbers below n + 1
pub count_more : (p : ℕ → Bool) (n : ℕ)
    → count_by p (range_with_len 0 (n + 1)) ≡ count_by p (range_with_len 0 n) + cond (p n) 1 0
count_more p n = ap (count_by p) (range_more n) ∙ sum_by_push (λ (x : ℕ). cond (p x) 1 0) (range_with_len 0 n) n

-- tests that agree on the numbers below n pass as often there
pub count_same : (p q : ℕ → Bool) (n : ℕ) → ((k : ℕ) → k < n → p k ≡ q k)
    → count_by p (range_with_len 0 n) ≡ count_by q (range_with_len 0 n)
count_same p q zero h = refl
count_same p q (suc n) h =
    let last : suc n ≡ n + 1 = omega arith in
    let here : ◌≡◌ {A = ℕ} (cond (p n) 1 0) (cond (q n) 1 0) = ap (λ (b : Bool). cond b 1 0) (h n (omega arith)) in
    subst (λ (k : ℕ). count_by p (range_with_len 0 k) ≡ count_by q (range_with_len 0 k)) (sym last)
    (omega (arith, count_more p n, count_more q n, here, count_same p q n (λ k lt. h k (omega arith))))

-- a sum over the numbers below n + 1
pub sum_more : (f : ℕ → ℕ) (n : ℕ)
    → sum_by f (range_with_len 0 (n + 1)) ≡ sum_by f (range_with_len 0 n) + f n
sum_more f n = ap (sum_by f) (range_more n) ∙ sum_by_push f (range_with_len 0 n) n

-- a number before a range is not in it
pub none_in : (a n m : ℕ) → m < a → count_by (λ x. x == m) (range_with_len a n) ≡ 0
none_in a zero m h = refl
none_in a (suc n) m h =
    let here : ◌≡◌ {A = ℕ} (cond (a == m) 1 0) 0 = grind (arith, nat_tests, h) in
    omega (arith, sum_by-cons (λ (x : ℕ). cond (x == m) 1 0) a (range_with_len (a + 1) n), here, none_in (a + 1) n m (omega (arith, h)))

-- a number of a range is in it once
pub one_in : (a n m : ℕ) → a ≤ m → m < a + n → count_by (λ x. x == m) (range_with_len a n) ≡ 1
one_in a zero m h k = absurd (omega (arith, h, k))
one_in a (suc n) m h k = by_test (a == m) refl (λ other. one_in (a + 1) n m other (omega (arith, k)))
  where
    by_test : (b : Bool) → (a == m) ≡ b
        → (a + 1 ≤ m → count_by (λ x. x == m) (range_with_len (a + 1) n) ≡ 1)
        → count_by (λ x. x == m) (a ∷ range_with_len (a + 1) n) ≡ 1
    by_test true e more =
        let here : ◌≡◌ {A = ℕ} (cond (a == m) 1 0) 1 = ap (λ (b : Bool). cond b 1 0) e in
        let same : a ≡ m = grind (arith, nat_tests, e) in
        omega (arith, sum_by-cons (λ (x : ℕ). cond (x == m) 1 0) a (range_with_len (a + 1) n), here, none_in (a + 1) n m (omega (arith, same)))
    by_test false e more =
        let here : ◌≡◌ {A = ℕ} (cond (a == m) 1 0) 0 = ap (λ (b : Bool). cond b 1 0) e in
        let other : a + 1 ≤ m = grind (arith, nat_tests, e, h) in
        omega (arith, sum_by-cons (λ (x : ℕ). cond (x == m) 1 0) a (range_with_len (a + 1) n), here, more other)

-- lists made from two ranges by functions that agree place by place
pub ranges_alike : {X : Type 0} (f g : ℕ → X) (a b n : ℕ)
    → ((i : ℕ) → i < n → f (a + i) ≡ g (b + i))
    → map f (range_with_len a n) ≡ map g (range_with_len b n)
ranges_alike f g a b zero h = refl
ranges_alike {X} f g a b (suc n) h =
    let at_a : a + 0 ≡ a = omega arith in
    let at_b : b + 0 ≡ b = omega arith in
    let here : f a ≡ g b = sym (ap f at_a) ∙ (h 0 (omega arith) ∙ ap g at_b) in
    let rest = ranges_alike f g (a + 1) (b + 1) n (λ i lt.
    let from_a : a + 1 + i ≡ a + (i + 1) = omega arith in
    let from_b : b + 1 + i ≡ b + (i + 1) = omega arith in
    ap f from_a ∙ (h (i + 1) (omega (arith, lt)) ∙ ap g (sym from_b))) in
    λ k. here k ∷ rest k
