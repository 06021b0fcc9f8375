-- Counts of the elements of a list that pass a test.
use Rattle.std.proofs.Common.{◌≡◌, ◌≤◌, ◌+◌, ◌-◌, ◌&&◌, ℕ, Bool, true, false, not, List, [], ◌∷◌, drop, cond, count_by, map, refl, ap, arith, All}
use Rattle.std.specs.Prelude.{slice_range}
use Rattle.std.proofs.lemmas.List.Elements.{All-head, All-tail}
use Rattle.std.proofs.lemmas.List.Sums.{sum_by-cons, sum_by-take-le, sum_by-take-drop, sum_by-le-sum_by}

-- what is counted by tests that agree on each element
pub count_alike : {X : Type 0} (p q : X → Bool) (xs : List X) → All (λ x. p x ≡ q x) xs
    → count_by p xs ≡ count_by q xs
count_alike p q [] h = refl
count_alike {X} p q (x ∷ xs) h =
    let one : ◌≡◌ {A = ℕ} (cond (p x) 1 0) (cond (q x) 1 0) = ap (λ (b : Bool). cond b 1 0) (All-head (λ (y : X). p y ≡ q y) x xs h) in
    omega (arith, sum_by-cons (λ (y : X). cond (p y) 1 0) x xs, sum_by-cons (λ (y : X). cond (q y) 1 0) x xs, one, count_alike p q xs (All-tail (λ (y : X). p y ≡ q y) x xs h))

-- a count over a mapped list
pub count_map : {X Y : Type 0} (f : X → Y) (p : Y → Bool) (xs : List X)
    → count_by p (map f xs) ≡ count_by (λ x. p (f x)) xs
count_map f p [] = refl
count_map {X} {Y} f p (x ∷ xs) =
    omega (arith, sum_by-cons (λ (y : Y). cond (p y) 1 0) (f x) (map f xs), sum_by-cons (λ (y : X). cond (p (f y)) 1 0) x xs, count_map f p xs)

-- where each that passes a test passes another, no more pass it
pub count_le : {X : Type 0} (p q : X → Bool) (xs : List X) → ((x : X) → p x ≡ true → q x ≡ true)
    → count_by p xs ≤ count_by q xs
count_le {X} p q xs h = sum_by-le-sum_by (λ x. cond (p x) 1 0) (λ x. cond (q x) 1 0) xs (λ x. each (p x) (q x) (h x))
  where
    each : (a b : Bool) → (a ≡ true → b ≡ true) → cond a 1 0 ≤ cond b 1 0
    each false b k = omega arith
    each true true k = omega arith
    each true false k = absurd (cc (k refl))

-- a test that none passes
pub none_pass : {X : Type 0} (xs : List X) → count_by (λ x. false) xs ≡ 0
none_pass [] = refl
none_pass {X} (x ∷ xs) = omega (arith, sum_by-cons (λ (y : X). cond false 1 0) x xs, none_pass xs)

-- those that pass a test and those that don't
pub split_count : (p q : ℕ → Bool) (us : List ℕ)
    → count_by (λ u. p u && q u) us + count_by (λ u. p u && not (q u)) us ≡ count_by p us
split_count p q [] = refl
split_count p q (u ∷ us) =
    let a = sum_by-cons (λ (x : ℕ). cond (p x && q x) 1 0) u us in
    let b = sum_by-cons (λ (x : ℕ). cond (p x && not (q x)) 1 0) u us in
    let c = sum_by-cons (λ (x : ℕ). cond (p x) 1 0) u us in
    omega (arith, a, b, c, split_count p q us, each (p u) (q u))
  where
    each : (x y : Bool) → ◌≡◌ {A = ℕ} (cond (x && y) 1 0 + cond (x && not y) 1 0) (cond x 1 0)
    each true true = refl
    each true false = refl
    each false true = refl
    each false false = refl

-- a slice has no more that pass than the list
pub range_le_all : {X : Type 0} (p : X → Bool) (xs : List X) (m n : ℕ)
    → count_by p (slice_range xs m n) ≤ count_by p xs
range_le_all {X} p xs m n =
    let f : X → ℕ = λ x. cond (p x) 1 0 in
    omega (arith, sum_by-take-le f (drop m xs) (n - m), sum_by-take-drop f xs m)
