use Rattle.std.proofs.Common.{◌≡◌, List, reverse, vec_len, take, length}
use Rattle.tree_core.specs.Walk.{Stands, places_of}
use Rattle.tree_core.proofs.walk.next_place.Given as goal

-- from whatever root the way led, it still leads from there
abbrev pub invariant-loop-entry : goal.invariant-loop-entry
invariant-loop-entry g l = record {
  stands : (root : _) (to_come : List _)
      → Stands (g.S.Space.steps l.space) (g.S.Space.is_own l.space) l.nodes root
      (reverse l.fn.way.items) l.fn.state to_come
      → Stands (g.S.Space.steps l.space) (g.S.Space.is_own l.space) l.nodes root
      (reverse l.way.items) l.state to_come;
  places : places_of l.way.items ≡ take (length l.way.items) (places_of l.fn.way.items);
}

abbrev pub decreases-loop-entry : goal.decreases-loop-entry
decreases-loop-entry g l = vec_len l.way
