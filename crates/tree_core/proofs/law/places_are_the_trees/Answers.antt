use Rattle.std.proofs.Common.{◌∙◌, ap, sym, length}
use Rattle.tree_core.specs.Reading.{tree_of}
use Rattle.tree_core.specs.Places.{state_at}
use Rattle.tree_core.proofs.Visits.{state_of_tree, length-states_of}
use Rattle.tree_core.proofs.law.places_are_the_trees.Goals as goal

pub returns-clause-states : goal.returns-clause-states
returns-clause-states g c = λ s nodes i tree below.
    ap (λ ms. state_at (g.S.Space.steps c.args._space.now) s ms i) (sym tree)
    ∙ state_of_tree (g.S.Space.steps c.args._space.now) (tree_of nodes) s i (rw tree below)

pub returns-clause-each : goal.returns-clause-each
returns-clause-each g c = λ s nodes tree. length-states_of (g.S.Space.steps c.args._space.now) (tree_of nodes) s ∙ ap length tree
