-- Partial decks as a space of states.
use Rattle.std.specs.Prelude.{◌≡◌, ℕ, Bool, Option, Some, None, List, if◌then◌else◌}
use Rattle.close_rules.specs.declared.label.Label.{Label}
use Rattle.close_rules.specs.declared.reason.Reason.{Reason}
use Rattle.close_rules.specs.Moves.{is_allowed, kid_of}
use Rattle.close_rules.specs.Refutes.{refutes}
use Rattle.close_rules.specs.Solution.{IsSolution}
use Rattle.deck_state.specs.PartialDeck.{PartialDeck}
use Rattle.tree_core.specs.Steps.{Steps}
use Rattle.deck_space.specs.Numbers.{numbers}

-- how many kids a label has: two where it is allowed
abbrev pub kid_count : Bool → Option ℕ
kid_count allowed = if allowed then Some 2 else None

-- a reason closes the partial decks that it refutes; an allowed label has two kids
abbrev pub deck_steps : Steps PartialDeck Label Reason
deck_steps =
    record { closes = refutes; arity = λ p label. kid_count (is_allowed p label); kid = kid_of }

-- the numbers of a good canonical deck that the partial deck can become
abbrev pub Solves : PartialDeck → List ℕ → Type 0
Solves p v = (deck : List (List Bool)) × (v ≡ numbers deck) × IsSolution p deck
