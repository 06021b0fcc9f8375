-- What the calls of a space answer, and the kids of a state.
use Rattle.std.specs.Prelude.{◌≡◌, ℕ, ◌<◌, Bool, Option, Some}

-- whether a reason closes a state, how many kids a label has there (`None` where it isn't allowed),
-- and each kid
pub record Steps (S B R : Type 0) : Type 0 where
  pub closes : S → R → Bool
  pub arity : S → B → Option ℕ
  pub kid : S → B → ℕ → S

-- `kid` is kid number k of the space's own state s under the label l, which is allowed there
pub record IsKid {S B R : Type 0} (steps : Steps S B R) (own : S → Type 0)
    (s : S) (l : B) (k : ℕ) (kid : S) : Type 0 where
  pub kids : ℕ
  pub is_own : own s
  pub arity : steps.arity s l ≡ Some kids
  pub below : k < kids
  pub is_kid : kid ≡ steps.kid s l k

-- a state is the root or lies below it: it is a kid of a state that does
pub data IsBelow {S B R : Type 0} (steps : Steps S B R) (own : S → Type 0) (root : S) : S
    → Type 0 where
  is_root : IsBelow steps own root root
  is_under : {s kid : S} {l : B} {k : ℕ} → IsBelow steps own root s → IsKid steps own s l k kid
      → IsBelow steps own root kid
