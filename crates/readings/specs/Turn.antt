-- Misassignments that are given by a function.
use Rattle.std.specs.Prelude.{◌≡◌, ◌<◌, ◌==◌, ℕ, cond, List, map}
use Rattle.std.specs.List.{range_with_len}

-- the misassignment in which f u is the source of u
abbrev pub made : ℕ → (ℕ → ℕ) → List ℕ
made n f = map f (range_with_len 0 n)

-- f goes through the numbers below n once each, and g back
pub record IsTurn (n : ℕ) (f g : ℕ → ℕ) : Type 0 where
  pub within : (u : ℕ) → u < n → f u < n
  pub back_within : (u : ℕ) → u < n → g u < n
  pub back : (u : ℕ) → u < n → g (f u) ≡ u
  pub forth : (u : ℕ) → u < n → f (g u) ≡ u

-- t and u exchanged
abbrev pub exchange : ℕ → ℕ → ℕ → ℕ
exchange t u v = cond (v == t) u (cond (v == u) t v)
