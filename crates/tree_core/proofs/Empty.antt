-- A tree that checks leaves no solution.
use Rattle.std.proofs.Common.{◌≡◌, ℕ, suc, ◌+◌, ◌<◌, ◌≤◌, true, false, Some, refl, arith, ◌↔◌, inl, inr}
use Rattle.std.proofs.Math.Nat.{eq-or-lt_of_le}
use Rattle.tree_core.specs.Rose.{Rose, Closed, Forked, Opened, Roses, none, more, count}
use Rattle.tree_core.specs.Steps.{Steps, IsKid}
use Rattle.tree_core.specs.Checks.{ChecksWith, KidsCheckWith}

module _ {S B R V : Type 0} (steps : Steps S B R) (own : S → Type 0) (sol : S → V → Type 0)
    (keeps : (s : S) (l : B) (k : ℕ) (kid : S) → IsKid steps own s l k kid → own kid)
    (closed : (s : S) (r : R) (v : V) → own s → steps.closes s r ≡ true → sol s v → ⊥)
    (split : (s : S) (l : B) (n : ℕ) (v : V) → own s → steps.arity s l ≡ Some n → sol s v ↔ ((k : ℕ) × (k < n) × sol (steps.kid s l k) v)) where
  mutual
    pub no_solution : (t : Rose B R) (s : S) (v : V) → own s → ChecksWith false steps s t → sol s v
        → ⊥
    no_solution (Closed r) s v o h x = closed s r v o h x
    no_solution (Forked l ts) s v o h x =
        let kid = (split s l (count ts) v o h.0).0 x in
        no_kid_solution ts s l 0 (count ts) v o h.0 (omega arith) h.1 kid.0 (omega arith) (omega (arith, kid.1)) kid.2
    no_solution Opened s v o h x = cc

    pub no_kid_solution : (ts : Roses B R) (s : S) (l : B) (from n : ℕ) (v : V) → own s
        → steps.arity s l ≡ Some n → from + count ts ≡ n
        → KidsCheckWith false steps s l from ts → (k : ℕ) → from ≤ k → k < n
        → sol (steps.kid s l k) v → ⊥
    no_kid_solution none s l from n v o a e h k low high x = omega arith
    no_kid_solution (more t ts) s l from n v o a e h k low high x =
        elim (eq-or-lt_of_le low) [
          | inl same ↦ no_solution t (steps.kid s l from) v (keeps s l from _ (record { kids = n; is_own = o; arity = a; below = omega arith; is_kid = refl })) h.0 (rw same x)
          | inr above ↦ no_kid_solution ts s l (suc from) n v o a (omega arith) h.1 k above high x
        ]
