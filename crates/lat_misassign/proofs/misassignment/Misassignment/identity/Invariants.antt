use Rattle.std.proofs.Common.{◌≡◌}
use Rattle.lat_base.specs.Misassignment.{identity}
use Rattle.lat_misassign.proofs.misassignment.Misassignment.identity.Given as goal

abbrev pub invariant-loop-t : goal.invariant-loop-t
invariant-loop-t l = l.sources.items ≡ identity l.t
