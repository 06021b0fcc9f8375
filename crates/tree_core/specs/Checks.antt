-- When a tree checks at a state.
use Rattle.std.specs.Prelude.{◌≡◌, ℕ, suc, Bool, true, false, IsTrue, Some}
use Rattle.tree_core.specs.declared.node.Node.{Node}
use Rattle.tree_core.specs.declared.node.Node.TheVariants.{Close, Fork, Open}
use Rattle.tree_core.specs.Rose.{Rose, Closed, Forked, Opened, Roses, none, more, count}
use Rattle.tree_core.specs.Steps.{Steps}

abbrev mutual
  -- a tree checks at a state, where `open_holds` says whether an open leaf does
  pub ChecksWith : {S B R : Type 0} → Bool → Steps S B R → S → Rose B R → Type 0
  ChecksWith open_holds steps s (Closed r) = steps.closes s r ≡ true
  ChecksWith open_holds steps s (Forked l ts) =
      (steps.arity s l ≡ Some (count ts)) × KidsCheckWith open_holds steps s l 0 ts
  ChecksWith open_holds steps s Opened = IsTrue open_holds

  -- each tree checks at its kid of the state, from kid number k on
  pub KidsCheckWith : {S B R : Type 0} → Bool → Steps S B R → S → B → ℕ → Roses B R → Type 0
  KidsCheckWith open_holds steps s l k none = Unit {0}
  KidsCheckWith open_holds steps s l k (more t ts) =
      ChecksWith open_holds steps (steps.kid s l k) t
      × KidsCheckWith open_holds steps s l (suc k) ts

-- a tree checks at a state: each Close closes, each Fork is allowed and has all its kids, and no
-- leaf is open
abbrev pub Checks : {S B R : Type 0} → Steps S B R → S → Rose B R → Type 0
Checks steps s t = ChecksWith false steps s t

-- the same, but every open leaf checks
abbrev pub OpenChecks : {S B R : Type 0} → Steps S B R → S → Rose B R → Type 0
OpenChecks steps s t = ChecksWith true steps s t

-- a node holds at a state, where `open_holds` says whether an open one does
abbrev pub NodeHolds : {S B R : Type 0} → Bool → Steps S B R → S → Node B R → Type 0
NodeHolds open_holds steps s (Close r) = steps.closes s r ≡ true
NodeHolds open_holds steps s (Fork l n) = steps.arity s l ≡ Some n
NodeHolds open_holds steps s Open = IsTrue open_holds
