use Rattle.std.proofs.Common.{◌≤◌, ◌-◌, reverse}
use Rattle.tree_core.specs.Walk.{IsAt}
use Rattle.tree_search.specs.Habits.{KeepsHabits}
use Rattle.tree_search.proofs.Progress.{Picked}
use Rattle.tree_search.proofs.searching.search.Given as goal

-- the walk over the nodes stands at the state at hand, the nodes were picked, and the habits are
-- kept
abbrev pub invariant-loop-picked : goal.invariant-loop-picked
invariant-loop-picked g l =
    let steps = g.S.Space.steps l.space in
    let habits = g.C.Chooser.habits l.fn.chooser l.space in
    record {
      at : IsAt steps (g.S.Space.is_own l.space) l.fn.state l.nodes.items (reverse l.way.items)
          l.state;
      picked : Picked steps habits l.fn.state (g.C.Chooser.memory l.fn.chooser) l.nodes.items
          (g.C.Chooser.memory l.chooser) l.picked;
      keeps : KeepsHabits habits (g.C.Chooser.habits l.chooser l.space);
      within : l.picked ≤ l.budget;
    }

abbrev pub decreases-loop-picked : goal.decreases-loop-picked
decreases-loop-picked g l = l.budget - l.picked
