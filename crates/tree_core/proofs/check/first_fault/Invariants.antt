use Rattle.std.proofs.Common.{Bool, [], ◌∷◌, reverse, take}
use Rattle.tree_core.specs.Checks.{NodeHolds}
use Rattle.tree_core.specs.Places.{EachPlace, ahead}
use Rattle.tree_core.specs.Walk.{Lands}
use Rattle.tree_core.proofs.check.first_fault.Given as goal

-- the nodes so far hold, and the walk over them stands at the next place or is back
abbrev pub invariant-loop-i : goal.invariant-loop-i
invariant-loop-i g l =
    let steps = g.S.Space.steps l.space in
    record {
      holds : EachPlace steps l.fn.state (take l.i l.nodes)
          (λ _ s node. NodeHolds l.open_holds steps s node);
      lands : (found : Bool) × Lands steps (g.S.Space.is_own l.space) l.nodes l.fn.state
          (reverse l.way.items) l.state found (ahead steps (l.fn.state ∷ []) (take l.i l.nodes));
    }
