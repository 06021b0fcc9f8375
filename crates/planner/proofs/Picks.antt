-- What a pick of the search for a deck shows.
use Rattle.std.proofs.Common.{◌≡◌, ℕ, true, Some, List, Result, Ok, Err, refl, ap, sym, subst}
use Rattle.std.specs.Prelude.{IfOk}
use Rattle.std.specs.declared.alloc.AllocError.{AllocError}
use Rattle.close_rules.specs.declared.label.Label.{Label}
use Rattle.close_rules.specs.Moves.{is_allowed}
use Rattle.deck_state.specs.PartialDeck.{PartialDeck}
use Rattle.deck_space.specs.Steps.{deck_steps, kid_count, Solves}
use Rattle.close_rules.specs.declared.reason.Reason.{Reason}
use Rattle.deck_state.specs.Shown.{IsComplete}
use Rattle.deck_space.specs.Numbers.{marks_as_numbers}
use Rattle.deck_space.proofs.Values.{value_solves}
use Rattle.tree_search.specs.declared.pick.Pick.{Pick}
use Rattle.tree_search.specs.declared.pick.Pick.TheVariants.{Close, Fork, Found, Halt}
use Rattle.tree_search.specs.Habits.{KeepsHabits, Fits, IsSolved}
use Rattle.planner.specs.declared.attempt.Attempt.{Attempt}
use Rattle.cert_types.specs.declared.proved.Proved.{Proved}
use Rattle.planner.specs.Choosing.{deck_habits, IsEager, IsJudged}

-- an allowed label has kids
pub has_kids : (p : PartialDeck) (label : Label) → is_allowed p label ≡ true
    → (kids : ℕ) × (deck_steps.arity p label ≡ Some kids)
has_kids p label h = (2, ap kid_count h)

-- the habits stay where the two numbers do
pub keeps_habits : (n m budget left : ℕ) → m ≡ n → left ≡ budget
    → KeepsHabits (deck_habits n budget) (deck_habits m left)
keeps_habits n m budget left e h = subst (λ (x : ℕ). KeepsHabits (deck_habits n budget) (deck_habits x left)) (sym e) (subst (λ (y : ℕ). KeepsHabits (deck_habits n budget) (deck_habits n y)) (sym h)
    (record { rule = refl; relation = λ m s p. ((λ x. x), (λ x. x)); proves = λ s p. ((λ x. x), (λ x. x)); excuses = λ s w. ((λ x. x), (λ x. x)) }))

-- what is judged fits its state
pub judged_fits : (n budget : ℕ) (p : PartialDeck)
    (result : Result (Pick Label Reason Proved Attempt) AllocError) → IsComplete p
    → IfOk result (IsJudged p budget)
    → IfOk result (Fits deck_steps (IsSolved IsComplete Solves marks_as_numbers)
    (deck_habits n budget) p)
judged_fits n budget p (Ok (Close reason)) complete h = h
judged_fits n budget p (Ok (Fork label)) complete h = absurd h
judged_fits n budget p (Ok (Found proved)) complete h = ((complete, value_solves p h.solution), h)
judged_fits n budget p (Ok (Halt attempt)) complete h = h
judged_fits n budget p (Err e) complete h = tt

-- and is eager
pub judged_eager : (budget : ℕ) (p : PartialDeck) (kept : List Reason)
    (result : Result (Pick Label Reason Proved Attempt) AllocError)
    → IfOk result (IsJudged p budget) → IfOk result (IsEager kept p)
judged_eager budget p kept (Ok (Close reason)) h = tt
judged_eager budget p kept (Ok (Fork label)) h = absurd h
judged_eager budget p kept (Ok (Found proved)) h = tt
judged_eager budget p kept (Ok (Halt attempt)) h = tt
judged_eager budget p kept (Err e) h = tt
