-- The numbers of a misassignment are targets.
use Rattle.std.proofs.Common.{◌≡◌, ◌<◌, ℕ, suc, Bool, true, false, nat_lt, List, [], ◌∷◌, length, cond, count_by, refl, ap, sym, ◌∙◌, arith, All}
use Rattle.std.specs.List.{AllByRecursion}
use Rattle.std.proofs.lemmas.List.Elements.{All-from_recursion}
use Rattle.std.proofs.lemmas.List.Sums.{sum_by-cons, count_by-le-length}
use Rattle.std.proofs.lemmas.Bool.Decides.{nat_tests}
use Rattle.lat_base.specs.Misassignment.{IsMisassignment, source}
use Rattle.lemmas.proofs.Below.{below_count}

-- where as many pass as there are, the first passes, and as many of the others
first_passes : (p : ℕ → Bool) (x : ℕ) (s : List ℕ) (b : Bool) → p x ≡ b
    → count_by p (x ∷ s) ≡ suc (length s) → (p x ≡ true) × (count_by p s ≡ length s)
first_passes p x s true e h =
    let one : ◌≡◌ {A = ℕ} (cond (p x) 1 0) 1 = ap (λ (b : Bool). cond b 1 0) e in
    (e, omega (arith, h, sum_by-cons (λ (y : ℕ). cond (p y) 1 0) x s, one))
first_passes p x s false e h =
    let none : ◌≡◌ {A = ℕ} (cond (p x) 1 0) 0 = ap (λ (b : Bool). cond b 1 0) e in
    absurd (omega (arith, h, sum_by-cons (λ (y : ℕ). cond (p y) 1 0) x s, none, count_by-le-length p s))

all_pass : (p : ℕ → Bool) (s : List ℕ) → count_by p s ≡ length s
    → AllByRecursion (λ x. p x ≡ true) s
all_pass p [] h = tt
all_pass p (x ∷ s) h = let parts = first_passes p x s (p x) refl h in (parts.0, all_pass p s parts.1)

-- each number of a misassignment is a target
pub within_of : (n : ℕ) (s : List ℕ) → IsMisassignment n s → All (λ x. x < n) s
within_of n s is =
    let passes = All-from_recursion (λ (x : ℕ). nat_lt x n ≡ true) s (all_pass (λ x. nat_lt x n) s (below_count s n is.once ∙ sym is.long)) in
    λ k d h. let e = passes k d h in grind (arith, nat_tests, e)

-- each source of a misassignment is a target
pub source_within : (n : ℕ) (s : List ℕ) → IsMisassignment n s → (u : ℕ) → u < n → source s u < n
source_within n s is u h = within_of n s is u 0 (omega (arith, h, is.long))
