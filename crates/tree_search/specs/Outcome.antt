-- What a search comes to.
use Rattle.std.specs.Prelude.{◌≡◌, ℕ, Some, List, count_by, take}
use Rattle.tree_core.specs.declared.node.Node.{Node}
use Rattle.tree_core.specs.Reading.{tree_of, IsTree}
use Rattle.tree_core.specs.Nodes.{is_pick, HasOpen, IsFirstOpen}
use Rattle.tree_core.specs.Steps.{Steps, IsBelow}
use Rattle.tree_core.specs.Checks.{OpenChecks}
use Rattle.tree_core.specs.Places.{state_at}
use Rattle.tree_search.specs.declared.pick.Pick.TheVariants.{Found, Halt}
use Rattle.tree_search.specs.Habits.{Habits}
use Rattle.tree_search.specs.Memory.{remembered}

-- an open tree of n nodes: the nodes list exactly one tree, it checks but for its open leaves, it
-- has n
-- Close and Fork nodes, and at least one Open
pub record IsOpenTree {S B R : Type 0} (steps : Steps S B R) (root : S) (n : ℕ)
    (nodes : List (Node B R)) : Type 0 where
  pub lists : IsTree nodes
  pub checks : OpenChecks steps root (tree_of nodes)
  pub count : count_by is_pick nodes ≡ n
  pub has_open : HasOpen nodes

-- a complete state of the space's own, below the root, whose value is a solution of the root; the
-- proof is one of that state, and was picked there under some memory
pub record IsFound {S B R P W : Type 0} (steps : Steps S B R) (own complete : S → Type 0)
    (solution : S → List ℕ → Type 0) (value : S → List ℕ)
    (habits : Habits S B R P W) (root s : S) (proof : P) : Type 0 where
  pub lies_below : IsBelow steps own root s
  pub is_own : own s
  pub is_complete : complete s
  pub is_solution : solution root (value s)
  pub proved : habits.proves s proof
  pub memory : List R
  pub related : habits.relation memory s (Found proof)

-- the value is one for the state of the first open leaf, which lies below the root, and was picked
-- there under the memory after the nodes before
pub record IsHalted {S B R P W : Type 0} (steps : Steps S B R) (own : S → Type 0)
    (habits : Habits S B R P W) (root : S) (memory : List R)
    (nodes : List (Node B R)) (why : W) : Type 0 where
  pub place : ℕ
  pub state : S
  pub lies_below : IsBelow steps own root state
  pub first : IsFirstOpen nodes place
  pub at_place : state_at steps root nodes place ≡ Some state
  pub excused : habits.excuses state why
  pub related : habits.relation (remembered habits.rule memory (take place nodes)) state (Halt why)
