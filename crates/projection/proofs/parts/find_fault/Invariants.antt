use Rattle.std.proofs.Common.{◌≡◌, ◌≤◌, drop, length}
use Rattle.projection.specs.PartFault.{place_fault}
use Rattle.projection.proofs.parts.find_fault.Given as goal

-- what is wrong first from here on is what is wrong first
abbrev pub invariant-loop-i : goal.invariant-loop-i
invariant-loop-i l = record {
  fault : place_fault (length l.shape) l.i l.least (drop l.i l.contests)
      ≡ place_fault (length l.shape) 0 0 l.contests;
  rise : l.i ≤ l.least;
  within : l.least ≤ length l.shape;
}
