-- How a walk stands: the state at hand, the Forks on the way to it, and the states that are still
-- to come.
use Rattle.std.specs.Prelude.{◌≡◌, ℕ, suc, ◌+◌, Bool, true, false, Some, List, [], ◌∷◌, ◌++◌, slice_get, map}
use Rattle.tree_core.specs.declared.node.Node.{Node}
use Rattle.tree_core.specs.declared.node.Node.TheVariants.{Fork}
use Rattle.tree_core.specs.declared.walk.Entry.{Entry}
use Rattle.tree_core.specs.Steps.{Steps}
use Rattle.tree_core.specs.Places.{kids_from, ahead}

-- the places of the Forks on a way
abbrev pub places_of : List Entry → List ℕ
places_of way = map (λ entry. entry.node) way

-- the state `here` is a kid of `s` under the Fork that the entry names; `left` more kids of it are
-- to come, and then `rest`
pub record Entered {S B R : Type 0} (steps : Steps S B R) (own : S
    → Type 0) (nodes : List (Node B R))
    (entry : Entry) (s here : S) (to_come rest : List S) : Type 0 where
  pub label : B
  pub kids : ℕ
  pub kid : ℕ
  pub left : ℕ
  pub is_own : own s
  pub node : slice_get nodes entry.node ≡ Some (Fork label kids)
  pub arity : steps.arity s label ≡ Some kids
  pub next : entry.next ≡ suc kid
  pub enough : suc kid + left ≡ kids
  pub is_kid : here ≡ steps.kid s label kid
  pub is_rest : to_come ≡ kids_from steps s label (suc kid) left ++ rest

-- the way leads from the root to the state at hand, the innermost Fork first, and these states are
-- to come after it
abbrev pub Stands : {S B R : Type 0} → Steps S B R → (S → Type 0) → List (Node B R) → S
    → List Entry → S → List S → Type 0
Stands steps own nodes root [] here to_come = own root × (here ≡ root) × (to_come ≡ [])
Stands {S} steps own nodes root (entry ∷ way) here to_come =
    (s : S) × (rest : List S) × Entered steps own nodes entry s here to_come rest
    × Stands steps own nodes root way s rest

-- the way leads from some root to the state at hand
abbrev pub IsOnWay : {S B R : Type 0} → Steps S B R → (S → Type 0) → List (Node B R) → List Entry
    → S → Type 0
IsOnWay {S} steps own nodes way here =
    (root : S) × (to_come : List S) × Stands steps own nodes root way here to_come

-- a move has come to the first of the states to come, or, where there is none, is back at the root;
-- `found` says which
abbrev pub Lands : {S B R : Type 0} → Steps S B R → (S → Type 0) → List (Node B R) → S
    → List Entry → S → Bool → List S → Type 0
Lands steps own nodes root way here found [] = (found ≡ false) × (way ≡ []) × (here ≡ root)
Lands steps own nodes root way here found (s ∷ ss) =
    (found ≡ true) × (here ≡ s) × Stands steps own nodes root way here ss

-- a walk over the nodes has come to the state at hand, whose node is the next one
pub record IsAt {S B R : Type 0} (steps : Steps S B R) (own : S → Type 0) (root : S)
    (nodes : List (Node B R)) (way : List Entry) (here : S) : Type 0 where
  pub to_come : List S
  pub walk : ahead steps (root ∷ []) nodes ≡ here ∷ to_come
  pub stands : Stands steps own nodes root way here to_come
