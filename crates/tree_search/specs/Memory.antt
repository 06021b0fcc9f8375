-- What a chooser remembers at each place of a list of nodes.
use Rattle.std.specs.Prelude.{◌≡◌, List, [], ◌∷◌}
use Rattle.tree_core.specs.declared.node.Node.{Node}
use Rattle.tree_core.specs.declared.node.Node.TheVariants.{Close, Fork, Open}
use Rattle.tree_core.specs.Steps.{Steps}
use Rattle.tree_core.specs.Places.{EachPlace}
use Rattle.tree_search.specs.declared.pick.Pick.{Pick}
use Rattle.tree_search.specs.declared.pick.Pick.TheVariants as picks
use Rattle.tree_search.specs.Habits.{Habits}

-- the memory after a node: a Close or Fork node counts as its pick, and an Open one leaves the
-- memory as it is
abbrev pub after_node : {B R P W : Type 0} → (List R → Pick B R P W → List R)
    → List R → Node B R → List R
after_node rule m (Close r) = rule m (picks.Close r)
after_node rule m (Fork l n) = rule m (picks.Fork l)
after_node rule m Open = m

-- the memory after several nodes
abbrev pub remembered : {B R P W : Type 0} → (List R → Pick B R P W → List R)
    → List R → List (Node B R) → List R
remembered rule m [] = m
remembered rule m (n ∷ ns) = remembered rule (after_node rule m n) ns

-- the relation holds of the memory after the nodes before, of the state and of the pick that the
-- node is
abbrev pub IsRelated : {S B R P W : Type 0} → Habits S B R P W → List R → List (Node B R) → S
    → Node B R → Type 0
IsRelated habits m before s (Close r) =
    habits.relation (remembered habits.rule m before) s (picks.Close r)
IsRelated habits m before s (Fork l n) =
    habits.relation (remembered habits.rule m before) s (picks.Fork l)
IsRelated habits m before s Open = Unit {0}

-- the nodes follow the habits from one memory to another: the relation holds at each place, and the
-- other memory is that after all of them
pub record Follows {S B R P W : Type 0} (habits : Habits S B R P W) (steps : Steps S B R) (root : S)
    (before later : List R) (nodes : List (Node B R)) : Type 0 where
  pub related : EachPlace steps root nodes (IsRelated habits before)
  pub memory : later ≡ remembered habits.rule before nodes
