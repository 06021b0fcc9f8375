use Rattle.std.proofs.Common.{◌≡◌, drop}
use Rattle.lat_misassign.specs.SourceFault.{fault_from}
use Rattle.lat_misassign.proofs.misassignment.find_fault.Given as goal

-- what is wrong first from here on is what is wrong first
abbrev pub invariant-loop-i : goal.invariant-loop-i
invariant-loop-i l = fault_from l.sources l.i (drop l.i l.sources) ≡ fault_from l.sources 0 l.sources
