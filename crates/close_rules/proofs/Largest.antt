-- The sum of the largest numbers of a list is the sum over all levels of how many are above, at
-- most so many of each.
use Rattle.std.proofs.Common.{◌≡◌, ◌≤◌, ℕ, zero, suc, Bool, true, false, nat_lt, nat_le, min, List, [], ◌∷◌, take, cond, count_by, refl, ap, sym, ◌∙◌, arith}
use Rattle.std.specs.List.{range_with_len, AllByRecursion}
use Rattle.std.proofs.lemmas.Bool.Decides.{nat_tests}
use Rattle.std.proofs.lemmas.List.Sums.{sum_by-cons}
use Rattle.close_rules.specs.Capacity.{put_falling, falling, sum_of_largest}
use Rattle.close_rules.proofs.Levels.{count_above, levels, sums_agree, sum_by_levels}

-- numbers that are at most n
abbrev pub AreUpTo : ℕ → List ℕ → Type 0
AreUpTo n numbers = AllByRecursion (λ x. x ≤ n) numbers

-- numbers in falling order
abbrev IsFalling : List ℕ → Type 0
IsFalling [] = Unit {0}
IsFalling (first ∷ rest) = AreUpTo first rest × IsFalling rest

up_to_more : (a b : ℕ) (numbers : List ℕ) → a ≤ b → AreUpTo a numbers → AreUpTo b numbers
up_to_more a b [] h all = tt
up_to_more a b (n ∷ numbers) h all = (omega (arith, h, all.0), up_to_more a b numbers h all.1)

put_up_to : (n most : ℕ) (numbers : List ℕ) → n ≤ most → AreUpTo most numbers
    → AreUpTo most (put_falling n numbers)
put_up_to n most [] h all = (h, tt)
put_up_to n most (first ∷ rest) h all = by_test (nat_le first n) (put_up_to n most rest h all.1)
  where
    by_test : (b : Bool) → AreUpTo most (put_falling n rest)
        → AreUpTo most (cond b (n ∷ first ∷ rest) (first ∷ put_falling n rest))
    by_test true later = (h, all)
    by_test false later = (all.0, later)

put_is : (n : ℕ) (numbers : List ℕ) → IsFalling numbers → IsFalling (put_falling n numbers)
put_is n [] is = (tt, tt)
put_is n (first ∷ rest) is = by_test (nat_le first n) refl (put_is n rest is.1)
  where
    by_test : (b : Bool) → nat_le first n ≡ b → IsFalling (put_falling n rest)
        → IsFalling (cond b (n ∷ first ∷ rest) (first ∷ put_falling n rest))
    by_test true e later =
        let le : first ≤ n = grind (arith, nat_tests, e) in
        ((le, up_to_more first n rest le is.0), is)
    by_test false e later =
        let le : n ≤ first = grind (arith, nat_tests, e) in
        (put_up_to n first rest le is.0, later)

put_count : (test : ℕ → Bool) (n : ℕ) (numbers : List ℕ)
    → count_by test (put_falling n numbers) ≡ count_by test (n ∷ numbers)
put_count test n [] = refl
put_count test n (first ∷ rest) = by_test (nat_le first n) (put_count test n rest)
  where
    by_test : (b : Bool) → count_by test (put_falling n rest) ≡ count_by test (n ∷ rest)
        → count_by test (cond b (n ∷ first ∷ rest) (first ∷ put_falling n rest))
        ≡ count_by test (n ∷ first ∷ rest)
    by_test true later = refl
    by_test false later =
        let f : ℕ → ℕ = λ m. cond (test m) 1 0 in
        omega (arith, later, sum_by-cons f first (put_falling n rest), sum_by-cons f n (first ∷ rest), sum_by-cons f first rest, sum_by-cons f n rest)

falling_is : (numbers : List ℕ) → IsFalling (falling numbers)
falling_is [] = tt
falling_is (n ∷ numbers) = put_is n (falling numbers) (falling_is numbers)

falling_up_to : (most : ℕ) (numbers : List ℕ) → AreUpTo most numbers
    → AreUpTo most (falling numbers)
falling_up_to most [] h = tt
falling_up_to most (n ∷ numbers) h = put_up_to n most (falling numbers) h.0 (falling_up_to most numbers h.1)

falling_count : (test : ℕ → Bool) (numbers : List ℕ)
    → count_by test (falling numbers) ≡ count_by test numbers
falling_count test [] = refl
falling_count test (n ∷ numbers) =
    let f : ℕ → ℕ = λ m. cond (test m) 1 0 in
    omega (arith, put_count test n (falling numbers), sum_by-cons f n (falling numbers), sum_by-cons f n numbers, falling_count test numbers)

none_above : (level : ℕ) (numbers : List ℕ) → AreUpTo level numbers → count_above level numbers ≡ 0
none_above level [] h = refl
none_above level (n ∷ numbers) h =
    let le : n ≤ level = h.0 in
    let none : ◌≡◌ {A = ℕ} (cond (nat_lt level n) 1 0) 0 = grind (arith, nat_tests, le) in
    omega (arith, none, sum_by-cons (λ (m : ℕ). cond (nat_lt level m) 1 0) n numbers, none_above level numbers h.1)

-- of a falling list, the first numbers above a level are all of them, up to their number
take_count : (level most : ℕ) (numbers : List ℕ) → IsFalling numbers
    → count_above level (take most numbers) ≡ min most (count_above level numbers)
take_count level zero numbers is = omega arith
take_count level (suc most) [] is = omega arith
take_count level (suc most) (first ∷ rest) is = by_test (nat_lt level first) refl (take_count level most rest is.1)
  where
    by_test : (b : Bool) → nat_lt level first ≡ b
        → count_above level (take most rest) ≡ min most (count_above level rest)
        → count_above level (first ∷ take most rest)
        ≡ min (suc most) (count_above level (first ∷ rest))
    by_test true e later =
        let f : ℕ → ℕ = λ m. cond (nat_lt level m) 1 0 in
        let one : ◌≡◌ {A = ℕ} (cond (nat_lt level first) 1 0) 1 = ap (λ (b : Bool). cond b 1 0) e in
        omega (arith, one, later, sum_by-cons f first (take most rest), sum_by-cons f first rest)
    by_test false e later =
        let f : ℕ → ℕ = λ m. cond (nat_lt level m) 1 0 in
        let none : ◌≡◌ {A = ℕ} (cond (nat_lt level first) 1 0) 0 = ap (λ (b : Bool). cond b 1 0) e in
        let le : first ≤ level = grind (arith, nat_tests, e) in
        omega (arith, none, later, none_above level rest (up_to_more first level rest le is.0), sum_by-cons f first (take most rest), sum_by-cons f first rest)

take_up_to : (n most : ℕ) (numbers : List ℕ) → AreUpTo n numbers → AreUpTo n (take most numbers)
take_up_to n zero numbers h = tt
take_up_to n (suc most) [] h = tt
take_up_to n (suc most) (first ∷ rest) h = (h.0, take_up_to n most rest h.1)

-- the sum of the largest of numbers up to n, by levels
pub largest_by_levels : (n most : ℕ) (numbers : List ℕ) → AreUpTo n numbers
    → levels n most numbers ≡ sum_of_largest most numbers
largest_by_levels n most numbers h =
    sums_agree (λ level. min most (count_above level numbers)) (λ level. count_above level (take most (falling numbers))) (range_with_len 0 n)
    (λ level. ap (min most) (sym (falling_count (λ m. nat_lt level m) numbers)) ∙ sym (take_count level most (falling numbers) (falling_is numbers)))
    ∙ sum_by_levels n (take most (falling numbers)) (take_up_to n most (falling numbers) (falling_up_to n numbers h))
