-- The laws of the space: kids are partial decks, refuted ones have no solution, and kids share
-- solutions.
use Rattle.std.proofs.Common.{◌≡◌, ◌<◌, ◌↔◌, inl, inr, ℕ, Bool, true, false, Some, List, refl, sym, subst, arith}
use Rattle.close_rules.specs.declared.label.Label.{Label}
use Rattle.close_rules.specs.declared.reason.Reason.{Reason}
use Rattle.close_rules.specs.Moves.{is_allowed, kid_of}
use Rattle.close_rules.specs.Refutes.{refutes}
use Rattle.close_rules.proofs.Kids.{kid_partial, kid_undone, kid_solution, solution_in_kid}
use Rattle.close_rules.proofs.Refuted.{refuted}
use Rattle.deck_state.specs.Changes.{undone}
use Rattle.deck_state.specs.PartialDeck.{PartialDeck}
use Rattle.deck_state.specs.Trail.{IsPartial}
use Rattle.tree_core.specs.Steps.{IsKid}
use Rattle.deck_space.specs.Steps.{kid_count, deck_steps, Solves}

-- a label that has kids is allowed, and has two
has_two : (allowed : Bool) (kids : ℕ) → kid_count allowed ≡ Some kids
    → (allowed ≡ true) × (kids ≡ 2)
has_two true kids h = let two : 2 ≡ kids = cc in (refl, sym two)
has_two false kids h = cc

-- a kid is a partial deck
pub keeps : (p : PartialDeck) (label : Label) (k : ℕ) (kid : PartialDeck)
    → IsKid deck_steps (λ q. IsPartial q) p label k kid → IsPartial kid
keeps p label k kid is = subst (λ (q : PartialDeck). IsPartial q) (sym is.is_kid) (kid_partial p label k is.is_own (has_two (is_allowed p label) is.kids is.arity).0)

-- the step to it is taken back
pub goes_back : (p : PartialDeck) (label : Label) (k : ℕ) (kid : PartialDeck)
    → IsKid deck_steps (λ q. IsPartial q) p label k kid → undone kid ≡ p
goes_back p label k kid is = subst (λ (q : PartialDeck). undone q ≡ p) (sym is.is_kid) (kid_undone p label k is.is_own (has_two (is_allowed p label) is.kids is.arity).0)

-- a refuted partial deck has no solution
pub is_empty : (p : PartialDeck) (reason : Reason) (v : List ℕ) → IsPartial p
    → refutes p reason ≡ true → Solves p v → ⊥
is_empty p reason v is h solution = refuted p reason solution.0 is h solution.2

-- the solutions are those of the kids
down : (p : PartialDeck) (label : Label) (v : List ℕ) → IsPartial p → is_allowed p label ≡ true
    → Solves p v → (k : ℕ) × (k < 2) × Solves (kid_of p label k) v
down p label v is h solution =
    elim (solution_in_kid p label solution.0 is h solution.2) [
      | inl first ↦ (0, (omega arith), (solution.0, solution.1, first))
      | inr second ↦ (1, (omega arith), (solution.0, solution.1, second))
    ]

up : (p : PartialDeck) (label : Label) (k : ℕ) (v : List ℕ) → IsPartial p
    → is_allowed p label ≡ true → Solves (kid_of p label k) v → Solves p v
up p label k v is h solution = (solution.0, solution.1, kid_solution p label k solution.0 is h solution.2)

pub splits : (p : PartialDeck) (label : Label) (kids : ℕ) (v : List ℕ) → IsPartial p
    → kid_count (is_allowed p label) ≡ Some kids
    → (Solves p v ↔ ((k : ℕ) × (k < kids) × Solves (kid_of p label k) v))
splits p label kids v is h =
    let two = has_two (is_allowed p label) kids h in (
      (λ solution. subst (λ (n : ℕ). (k : ℕ) × (k < n) × Solves (kid_of p label k) v) (sym two.1) (down p label v is two.0 solution)),
      (λ solution. up p label solution.0 v is two.0 solution.2),
    )
