use Rattle.std.proofs.Common.{◌≡◌, drop}
use Rattle.lat_base.specs.ShapeFault.{contest_fault}
use Rattle.lat_base.proofs.shape_fault.find_contest_fault.Given as goal

-- what is wrong first from here on is what is wrong first
abbrev pub invariant-loop-i : goal.invariant-loop-i
invariant-loop-i l = contest_fault l.i (drop l.i l.contests) ≡ contest_fault 0 l.contests
