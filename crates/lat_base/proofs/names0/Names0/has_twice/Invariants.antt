use Rattle.std.proofs.Common.{◌≡◌, drop}
use Rattle.lat_base.specs.Names.{has_twice}
use Rattle.lat_base.proofs.names0.Names0.has_twice.Given as goal

-- an id stands twice where one does from here on
abbrev pub invariant-loop-i : goal.invariant-loop-i
invariant-loop-i l = has_twice (drop l.i l.self) ≡ has_twice l.self
