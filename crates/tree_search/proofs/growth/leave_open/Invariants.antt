use Rattle.std.proofs.Common.{◌≡◌, ℕ, ◌++◌, reverse}
use Rattle.tree_core.specs.Walk.{IsAt}
use Rattle.tree_search.specs.Turn.{opens}
use Rattle.tree_search.proofs.Left.{left_of}
use Rattle.tree_search.proofs.growth.leave_open.Given as goal

-- the walk goes on from the same root, over open nodes alone
abbrev pub invariant-rest : goal.invariant-rest
invariant-rest g l = record {
  at : (root : _) → IsAt (g.S.Space.steps l.space) (g.S.Space.is_own l.space) root l.fn.nodes.items
      (reverse l.fn.way.items) l.fn.state
      → IsAt (g.S.Space.steps l.space) (g.S.Space.is_own l.space) root l.nodes.items
      (reverse l.way.items) l.state;
  opened : (n : ℕ) × (l.nodes.items ≡ l.fn.nodes.items ++ opens n);
}

abbrev pub decreases-rest : goal.decreases-rest
decreases-rest g l = left_of l.nodes.items (reverse l.way.items)
