-- Trees over the misassignments, other than the identity, that leave a deck's own report as it is.
use Rattle.std.specs.Prelude.{ℕ, zero, suc, ◌*◌, Bool, List}
use Rattle.lat_base.specs.declared.contest.Contest.{Contest}
use Rattle.tree_core.specs.declared.node.Node.{Node}
use Rattle.tree_core.specs.Reading.{tree_of, IsTree}
use Rattle.tree_core.specs.Checks.{Checks}
use Rattle.tree_search.specs.Outcome.{IsOpenTree}
use Rattle.evade_space.specs.declared.skipped.Skipped.{Skipped}
use Rattle.evade_space.specs.Sought.{own_sought, start}
use Rattle.evade_space.specs.Steps.{evade_steps}

-- the nodes list exactly one tree, and it checks where no image has a source: nothing evades the
-- deck
pub record IsRobustTree (contests : List Contest) (deck : List (List Bool))
    (nodes : List (Node ℕ Skipped)) : Type 0 where
  pub lists : IsTree nodes
  pub checks : Checks (evade_steps (own_sought contests deck)) (start (own_sought contests deck))
      (tree_of nodes)

-- the nodes list exactly one tree, which checks there but for its open leaves; of its nodes so many
-- are Close or Fork, and some are Open
abbrev pub IsOpenAttack : List Contest → List (List Bool) → ℕ → List (Node ℕ Skipped) → Type 0
IsOpenAttack contests deck budget nodes =
    IsOpenTree (evade_steps (own_sought contests deck)) (start (own_sought contests deck)) budget
    nodes

-- the product of the numbers from 1 to n
abbrev pub factorial : ℕ → ℕ
factorial zero = 1
factorial (suc n) = suc n * factorial n
