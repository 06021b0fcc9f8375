-- The sum of the largest numbers of a list, counted by levels: how many are above 0, above 1, and
-- so on.
use Rattle.std.proofs.Common.{◌≡◌, ◌+◌, ◌<◌, ◌≤◌, ℕ, zero, suc, Bool, true, false, nat_lt, min, List, [], ◌∷◌, cond, count_by, refl, ap, sym, ◌∙◌, arith}
use Rattle.std.specs.List.{range_with_len, sum, sum_by, AllByRecursion}
use Rattle.std.proofs.lemmas.Bool.Decides.{nat_tests}
use Rattle.std.proofs.lemmas.List.Sums.{sum_by-cons}
use Rattle.lemmas.proofs.Ranges.{sum_more}

-- how many numbers are above a level
abbrev pub count_above : ℕ → List ℕ → ℕ
count_above level numbers = count_by (λ n. nat_lt level n) numbers

-- the numbers above each level below n, at most so many of each
abbrev pub levels : ℕ → ℕ → List ℕ → ℕ
levels n most numbers = sum_by (λ level. min most (count_above level numbers)) (range_with_len 0 n)

-- one level more
pub level_more : (n most : ℕ) (numbers : List ℕ)
    → levels (n + 1) most numbers ≡ levels n most numbers + min most (count_above n numbers)
level_more n most numbers = sum_more (λ level. min most (count_above level numbers)) n

-- sums of terms that agree
pub sums_agree : (f g : ℕ → ℕ) (ns : List ℕ) → ((n : ℕ) → f n ≡ g n) → sum_by f ns ≡ sum_by g ns
sums_agree f g [] h = refl
sums_agree f g (n ∷ ns) h = omega (arith, sum_by-cons f n ns, sum_by-cons g n ns, h n, sums_agree f g ns h)

-- a sum of two
sum_of_two : (f g : ℕ → ℕ) (ns : List ℕ) → sum_by (λ n. f n + g n) ns ≡ sum_by f ns + sum_by g ns
sum_of_two f g [] = refl
sum_of_two f g (n ∷ ns) = omega (arith, sum_by-cons (λ (m : ℕ). f m + g m) n ns, sum_by-cons f n ns, sum_by-cons g n ns, sum_of_two f g ns)

no_levels : (ns : List ℕ) → sum_by (λ level. 0) ns ≡ 0
no_levels [] = refl
no_levels (n ∷ ns) = omega (arith, sum_by-cons (λ (m : ℕ). 0) n ns, no_levels ns)

-- a number is above as many levels below n as it is, and not more than n
levels_below : (x n : ℕ) → sum_by (λ level. cond (nat_lt level x) 1 0) (range_with_len 0 n)
    ≡ min n x
levels_below x zero = omega arith
levels_below x (suc n) =
    let next : n + 1 ≡ suc n = omega arith in
    let more : sum_by (λ level. cond (nat_lt level x) 1 0) (range_with_len 0 (suc n)) ≡ sum_by (λ level. cond (nat_lt level x) 1 0) (range_with_len 0 n) + cond (nat_lt n x) 1 0 =
    ap (λ (m : ℕ). sum_by (λ level. cond (nat_lt level x) 1 0) (range_with_len 0 m)) (sym next) ∙ sum_more (λ level. cond (nat_lt level x) 1 0) n in
    let last : min n x + cond (nat_lt n x) 1 0 ≡ min (suc n) x = by_test (nat_lt n x) refl in
    omega (arith, more, last, levels_below x n)
  where
    by_test : (b : Bool) → nat_lt n x ≡ b → min n x + cond b 1 0 ≡ min (suc n) x
    by_test true e = let lt : n < x = grind (arith, nat_tests, e) in omega (arith, lt)
    by_test false e = let le : x ≤ n = grind (arith, nat_tests, e) in omega (arith, le)

-- a sum of numbers up to n, by levels
pub sum_by_levels : (n : ℕ) (numbers : List ℕ) → AllByRecursion (λ x. x ≤ n) numbers
    → sum_by (λ level. count_above level numbers) (range_with_len 0 n) ≡ sum numbers
sum_by_levels n [] h = no_levels (range_with_len 0 n)
sum_by_levels n (x ∷ numbers) h =
    let one = sums_agree (λ level. count_above level (x ∷ numbers)) (λ level. cond (nat_lt level x) 1 0 + count_above level numbers) (range_with_len 0 n)
    (λ level. sum_by-cons (λ (m : ℕ). cond (nat_lt level m) 1 0) x numbers) in
    let two = sum_of_two (λ level. cond (nat_lt level x) 1 0) (λ level. count_above level numbers) (range_with_len 0 n) in
    omega (arith, one, two, levels_below x n, h.0, sum_by_levels n numbers h.1, sum_by-cons (λ (m : ℕ). m) x numbers)
