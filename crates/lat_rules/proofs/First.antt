-- What is broken first, number by number.
use Rattle.std.proofs.Common.{◌≡◌, ◌<◌, ◌≤◌, ◌+◌, ◌-◌, ℕ, zero, suc, Option, Some, None, ap, sym, ◌∙◌, arith}
use Rattle.std.specs.List.{range_with_len}
use Rattle.lat_rules.specs.declared.broken.Broken.{Broken}
use Rattle.lat_rules.specs.Broken.{or_else, first_broken}

first_step : (f : ℕ → Option Broken) (i n : ℕ) → i < n
    → first_broken f (range_with_len i (n - i))
    ≡ or_else (f i) (first_broken f (range_with_len (i + 1) (n - (i + 1))))
first_step f i n lt =
    let more : n - i ≡ suc (n - (i + 1)) = omega arith in
    ap (λ (m : ℕ). first_broken f (range_with_len i m)) more

-- where something is broken here, that is it
pub first_here : (f : ℕ → Option Broken) (i n : ℕ) (b : Broken) → i < n → f i ≡ Some b
    → first_broken f (range_with_len i (n - i)) ≡ Some b
first_here f i n b lt e = first_step f i n lt ∙ ap (λ (o : Option Broken). or_else o (first_broken f (range_with_len (i + 1) (n - (i + 1))))) e

-- where nothing is, it is what is broken later
pub first_later : (f : ℕ → Option Broken) (i n : ℕ) → i < n → f i ≡ None
    → first_broken f (range_with_len (i + 1) (n - (i + 1)))
    ≡ first_broken f (range_with_len i (n - i))
first_later f i n lt e = sym (first_step f i n lt ∙ ap (λ (o : Option Broken). or_else o (first_broken f (range_with_len (i + 1) (n - (i + 1))))) e)

-- nothing is broken past the end
pub first_end : (f : ℕ → Option Broken) (i n : ℕ) → n ≤ i
    → first_broken f (range_with_len i (n - i)) ≡ None
first_end f i n le =
    let none : n - i ≡ zero = omega arith in
    ap (λ (m : ℕ). first_broken f (range_with_len i m)) none
