-- What a chooser's picks say, and how they change what it remembers.
use Rattle.std.specs.Prelude.{◌≡◌, ◌↔◌, ℕ, true, Some, List}
use Rattle.tree_core.specs.Steps.{Steps}
use Rattle.tree_search.specs.declared.pick.Pick.{Pick}
use Rattle.tree_search.specs.declared.pick.Pick.TheVariants.{Close, Fork, Found, Halt}

-- the rule by which a pick changes the memory, and three relations: of the memory before a pick,
-- the state and the pick; of a complete state and a proof of it; of a state and what a Halt says
-- there
pub record Habits (S B R P W : Type 0) : Type 1 where
  pub rule : List R → Pick B R P W → List R
  pub relation : List R → S → Pick B R P W → Type 0
  pub proves : S → P → Type 0
  pub excuses : S → W → Type 0

-- the state is complete, and its value is a solution of it
abbrev pub IsSolved : {S : Type 0} → (S → Type 0) → (S → List ℕ → Type 0) → (S → List ℕ) → S
    → Type 0
IsSolved complete solution value s = complete s × solution s (value s)

-- a pick fits its state: the reason closes it, the label is allowed, it is solved and proved, or it
-- is excused
abbrev pub Fits : {S B R P W : Type 0} → Steps S B R → (S → Type 0) → Habits S B R P W → S
    → Pick B R P W → Type 0
Fits steps solved habits s (Close r) = steps.closes s r ≡ true
Fits steps solved habits s (Fork l) = (kids : ℕ) × (steps.arity s l ≡ Some kids)
Fits steps solved habits s (Found p) = solved s × habits.proves s p
Fits steps solved habits s (Halt w) = habits.excuses s w

-- the rule and the relations are as they were
pub record KeepsHabits {S B R P W : Type 0} (old new : Habits S B R P W) : Type 0 where
  pub rule : new.rule ≡ old.rule
  pub relation : (m : List R) (s : S) (p : Pick B R P W) → new.relation m s p ↔ old.relation m s p
  pub proves : (s : S) (p : P) → new.proves s p ↔ old.proves s p
  pub excuses : (s : S) (w : W) → new.excuses s w ↔ old.excuses s w
