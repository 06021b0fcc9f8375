-- The state at each place of a list of nodes, by a walk over the nodes before it.
use Rattle.std.specs.Prelude.{◌≡◌, ℕ, zero, suc, Bool, Option, Some, List, [], ◌∷◌, ◌++◌, slice_get, take}
use Rattle.tree_core.specs.declared.node.Node.{Node}
use Rattle.tree_core.specs.declared.node.Node.TheVariants.{Close, Fork, Open}
use Rattle.tree_core.specs.Rose.{Rose, Closed, Forked, Opened, Roses, none, more}
use Rattle.tree_core.specs.Steps.{Steps}
use Rattle.tree_core.specs.Checks.{NodeHolds}

-- n kids of a state, from number k on
abbrev pub kids_from : {S B R : Type 0} → Steps S B R → S → B → ℕ → ℕ → List S
kids_from steps s l k zero = []
kids_from steps s l k (suc n) = steps.kid s l k ∷ kids_from steps s l (suc k) n

-- the states that are still to come, the nearest first, after a node at the first of them: a Fork
-- puts the kids of its state in its place
abbrev pub after : {S B R : Type 0} → Steps S B R → List S → Node B R → List S
after steps [] node = []
after steps (s ∷ ss) (Close r) = ss
after steps (s ∷ ss) (Fork l n) = kids_from steps s l 0 n ++ ss
after steps (s ∷ ss) Open = ss

-- the states that are still to come after several nodes
abbrev pub ahead : {S B R : Type 0} → Steps S B R → List S → List (Node B R) → List S
ahead steps ss [] = ss
ahead steps ss (node ∷ nodes) = ahead steps (after steps ss node) nodes

-- the state at place i: the next one that is to come after the nodes before it
abbrev pub state_at : {S B R : Type 0} → Steps S B R → S → List (Node B R) → ℕ → Option S
state_at steps root nodes i = slice_get (ahead steps (root ∷ []) (take i nodes)) 0

-- at each place something holds of the nodes before it, its state and its node
abbrev pub EachPlace : {S B R : Type 0} → Steps S B R → S → List (Node B R)
    → (List (Node B R) → S → Node B R → Type 0) → Type 0
EachPlace {S} {B} {R} steps root nodes P =
    (i : ℕ) (s : S) (node : Node B R) → slice_get nodes i ≡ Some node
    → state_at steps root nodes i ≡ Some s → P (take i nodes) s node

-- the nodes before place i hold at their states, and the one at place i doesn't
pub record IsFirstFault {S B R : Type 0} (open_holds : Bool) (steps : Steps S B R) (root : S)
    (nodes : List (Node B R)) (i : ℕ) : Type 0 where
  pub before : EachPlace steps root (take i nodes) (λ _ s node. NodeHolds open_holds steps s node)
  pub state : S
  pub node : Node B R
  pub at_place : state_at steps root nodes i ≡ Some state
  pub is_node : slice_get nodes i ≡ Some node
  pub fails : NodeHolds open_holds steps state node → ⊥

abbrev mutual
  -- the states of a tree's nodes in preorder, by recursion on the tree
  pub states_of : {S B R : Type 0} → Steps S B R → S → Rose B R → List S
  states_of steps s (Closed r) = s ∷ []
  states_of steps s (Forked l ts) = s ∷ states_of_all steps s l 0 ts
  states_of steps s Opened = s ∷ []

  -- the states of the nodes of several trees, at the kids of a state from number k on
  pub states_of_all : {S B R : Type 0} → Steps S B R → S → B → ℕ → Roses B R → List S
  states_of_all steps s l k none = []
  states_of_all steps s l k (more t ts) =
      states_of steps (steps.kid s l k) t ++ states_of_all steps s l (suc k) ts
