-- The least totals of a contest, one after another.
use Rattle.std.proofs.Common.{◌≡◌, ◌+◌, ◌<◌, ◌≤◌, ◌||◌, ℕ, suc, Bool, true, false, nat_lt, max, map, refl, ap, sym, ◌∙◌}
use Rattle.std.specs.List.{range_with_len, sum}
use Rattle.std.proofs.lemmas.List.Sums.{sum_by-cons}
use Rattle.std.proofs.lemmas.Bool.{lt-ltb, le-ltb, or_left}
use Rattle.close_rules.specs.Totals.{is_above, least_rising}

second_or : (a b rest : Bool) → b ≡ true → a || (b || rest) ≡ true
second_or true b rest e = refl
second_or false b rest e = λ i. e i || rest

-- whether a least total is above, from target t on, where the totals of n targets are left
abbrev pub above_from : (low high : ℕ → ℕ) (most from t n : ℕ) → Bool
above_from low high most from t n = is_above most (least_rising from (map low (range_with_len t n))) (map high (range_with_len t n))

-- one target further, where its least total is possible
pub further : (low high : ℕ → ℕ) (most from t u n m x : ℕ) → n ≡ suc m → u ≡ t + 1
    → x ≡ max from (low t) → x ≤ high t → x ≤ most
    → above_from low high most (x + 1) u m ≡ above_from low high most from t n
further low high most from t u n m x n_is u_is x_is fits few =
    ap (λ (v : ℕ). above_from low high most (x + 1) v m) u_is
    ∙ ((λ i. sym (le-ltb (high t) x fits) i || (sym (le-ltb most x few) i || above_from low high most (x + 1) (t + 1) m))
    ∙ (ap (λ (y : ℕ). nat_lt (high t) y || (nat_lt most y || above_from low high most (y + 1) (t + 1) m)) x_is
    ∙ ap (λ (k : ℕ). above_from low high most from t k) (sym n_is)))

-- a least total that is above what its total can be
pub above_high : (low high : ℕ → ℕ) (most from t n m x : ℕ) → n ≡ suc m → x ≡ max from (low t)
    → high t < x → above_from low high most from t n ≡ true
above_high low high most from t n m x n_is x_is h =
    ap (λ (k : ℕ). above_from low high most from t k) n_is
    ∙ or_left (nat_lt (high t) (max from (low t))) (nat_lt most (max from (low t)) || above_from low high most (max from (low t) + 1) (t + 1) m) (ap (nat_lt (high t)) (sym x_is) ∙ lt-ltb (high t) x h)

-- a least total that is above what any total of the contest can be
pub above_most : (low high : ℕ → ℕ) (most from t n m x : ℕ) → n ≡ suc m → x ≡ max from (low t)
    → most < x → above_from low high most from t n ≡ true
above_most low high most from t n m x n_is x_is h =
    ap (λ (k : ℕ). above_from low high most from t k) n_is
    ∙ second_or (nat_lt (high t) (max from (low t))) (nat_lt most (max from (low t))) (above_from low high most (max from (low t) + 1) (t + 1) m) (ap (nat_lt most) (sym x_is) ∙ lt-ltb most x h)

-- the sum of the least totals, the first one apart
pub sum_further : (low : ℕ → ℕ) (from t u n m x : ℕ) → n ≡ suc m → u ≡ t + 1 → x ≡ max from (low t)
    → sum (least_rising from (map low (range_with_len t n)))
    ≡ x + sum (least_rising (x + 1) (map low (range_with_len u m)))
sum_further low from t u n m x n_is u_is x_is =
    ap (λ (k : ℕ). sum (least_rising from (map low (range_with_len t k)))) n_is
    ∙ (sum_by-cons (λ (y : ℕ). y) (max from (low t)) (least_rising (max from (low t) + 1) (map low (range_with_len (t + 1) m)))
    ∙ (λ i. sym x_is i + sum (least_rising (sym x_is i + 1) (map low (range_with_len (sym u_is i) m)))))
