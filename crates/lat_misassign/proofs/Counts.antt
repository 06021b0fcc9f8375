-- How often a number stands in a list.
use Rattle.std.proofs.Common.{◌≡◌, ◌≤◌, ◌<◌, ◌+◌, ℕ, zero, suc, Bool, true, false, List, count_by, refl, ap, ◌∙◌, arith}
use Rattle.std.specs.Prelude.{◌==◌, nat_lt}
use Rattle.std.proofs.lemmas.Bool.Decides.{nat_tests}
use Rattle.lemmas.proofs.Below.{one_more, none_below}

-- how often t stands
abbrev pub count_of : ℕ → List ℕ → ℕ
count_of t s = count_by (λ x. x == t) s

suc_below : (s : List ℕ) (n : ℕ)
    → count_by (λ x. nat_lt x (suc n)) s ≡ count_by (λ x. nat_lt x n) s + count_of n s
suc_below s n = ap (λ (m : ℕ). count_by (λ x. nat_lt x m) s) (omega arith) ∙ one_more (λ x. true) s n

-- where no number stands twice, at most n are below n
pub at_most : (s : List ℕ) (n : ℕ) → ((t : ℕ) → count_of t s ≤ 1) → count_by (λ x. nat_lt x n) s ≤ n
at_most s zero h = omega (arith, none_below (λ x. true) s)
at_most s (suc n) h = omega (arith, suc_below s n, at_most s n h, h n)

-- and fewer, where one below n isn't there
fewer_by : (s : List ℕ) (n t : ℕ) → ((u : ℕ) → count_of u s ≤ 1) → t < suc n → count_of t s ≡ 0
    → (t < n → count_by (λ x. nat_lt x n) s + 1 ≤ n)
    → (b : Bool) → (t == n) ≡ b → count_by (λ x. nat_lt x (suc n)) s + 1 ≤ suc n
fewer_by s n t h lt none before true e =
    let same : t ≡ n = grind (arith, nat_tests) in
    omega (arith, suc_below s n, at_most s n h, none, ap (λ (m : ℕ). count_of m s) same)
fewer_by s n t h lt none before false e =
    let less : t < n = grind (arith, nat_tests) in
    omega (arith, suc_below s n, before less, h n)

pub one_fewer : (s : List ℕ) (n t : ℕ) → ((u : ℕ) → count_of u s ≤ 1) → t < n → count_of t s ≡ 0
    → count_by (λ x. nat_lt x n) s + 1 ≤ n
one_fewer s zero t h lt none = absurd (omega arith)
one_fewer s (suc n) t h lt none = fewer_by s n t h lt none (λ less. one_fewer s n t h less none) (t == n) refl
