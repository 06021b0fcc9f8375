-- What an attack on a deck shows.
use Rattle.std.specs.Prelude.{ℕ, Bool, List}
use Rattle.lat_base.specs.declared.contest.Contest.{Contest}
use Rattle.lat_base.specs.Goodness.{IsRobust}
use Rattle.tree_core.specs.Nodes.{IsGapless}
use Rattle.evade_space.specs.Sought.{Evades}
use Rattle.evade_space.specs.Trees.{IsRobustTree, IsOpenAttack}
use Rattle.adversary.specs.declared.attacking.Attacked.{Attacked}
use Rattle.adversary.specs.declared.attacking.Attacked.TheVariants.{Evaded, Robust, Spent}

-- a misassignment that evades the deck; or that the deck is robust, with a tree that checks; or an
-- open tree of as many Close and Fork nodes as the budget, with no such node after an open one
abbrev pub IsAttack : List Contest → List (List Bool) → ℕ → Attacked → Type 0
IsAttack contests deck budget (Evaded s) = Evades contests deck s
IsAttack contests deck budget (Robust tree) =
    IsRobust contests deck × IsRobustTree contests deck tree
IsAttack contests deck budget (Spent tree) = IsOpenAttack contests deck budget tree × IsGapless tree

-- the attack ended before its budget did
abbrev pub IsEnded : Attacked → Type 0
IsEnded (Evaded s) = Unit {0}
IsEnded (Robust tree) = Unit {0}
IsEnded (Spent tree) = ⊥
