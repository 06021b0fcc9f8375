-- Sums over the ballots of a deck, and sums of counts.
use Rattle.std.proofs.Common.{◌≡◌, ◌≤◌, ◌+◌, ℕ, Bool, List, [], ◌∷◌, cond, count_by, sum_by, refl, arith}
use Rattle.std.proofs.lemmas.List.Sums.{sum_by-cons}

-- a sum of two, one by one
pub sum_both : (f g h : List Bool → ℕ) (deck : List (List Bool))
    → ((b : List Bool) → f b + g b ≤ h b) → sum_by f deck + sum_by g deck ≤ sum_by h deck
sum_both f g h [] le = omega arith
sum_both f g h (b ∷ deck) le = omega (arith, sum_by-cons f b deck, sum_by-cons g b deck, sum_by-cons h b deck, le b, sum_both f g h deck le)

zeros : (us : List ℕ) → sum_by (λ u. 0) us ≡ 0
zeros [] = refl
zeros (u ∷ us) = omega (arith, sum_by-cons (λ (x : ℕ). 0) u us, zeros us)

one_ballot : (f : List Bool → ℕ → ℕ) (b : List Bool) (deck : List (List Bool)) (us : List ℕ)
    → sum_by (λ u. sum_by (λ x. f x u) (b ∷ deck)) us
    ≡ sum_by (f b) us + sum_by (λ u. sum_by (λ x. f x u) deck) us
one_ballot f b deck [] = refl
one_ballot f b deck (u ∷ us) =
    let a = sum_by-cons (λ (v : ℕ). sum_by (λ x. f x v) (b ∷ deck)) u us in
    let c = sum_by-cons (f b) u us in
    let d = sum_by-cons (λ (v : ℕ). sum_by (λ x. f x v) deck) u us in
    let e = sum_by-cons (λ (x : List Bool). f x u) b deck in
    omega (arith, a, c, d, e, one_ballot f b deck us)

-- a sum of sums, by columns and by rows
pub sums_turned : (f : List Bool → ℕ → ℕ) (us : List ℕ) (deck : List (List Bool))
    → sum_by (λ u. sum_by (λ x. f x u) deck) us ≡ sum_by (λ x. sum_by (f x) us) deck
sums_turned f us [] = zeros us
sums_turned f us (b ∷ deck) = omega (arith, one_ballot f b deck us, sums_turned f us deck, sum_by-cons (λ (x : List Bool). sum_by (f x) us) b deck)

-- a sum of counts, by columns and by rows
pub sums_exchanged : (f : List Bool → ℕ → Bool) (us : List ℕ) (deck : List (List Bool))
    → sum_by (λ u. count_by (λ x. f x u) deck) us ≡ sum_by (λ x. count_by (f x) us) deck
sums_exchanged f us deck = sums_turned (λ x u. cond (f x u) 1 0) us deck
