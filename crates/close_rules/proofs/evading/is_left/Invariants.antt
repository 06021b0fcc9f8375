use Rattle.std.proofs.Common.{◌≡◌, ◌+◌, ◌-◌}
use Rattle.std.specs.List.{list_all, range_with_len}
use Rattle.lat_base.specs.Shape.{contest_at}
use Rattle.close_rules.specs.Evading.{stays, is_left}
use Rattle.close_rules.proofs.evading.is_left.Given as goal

-- each counts for itself where each from here on does
abbrev pub invariant-loop-i : goal.invariant-loop-i
invariant-loop-i l = list_all (stays l.s) (range_with_len (l.first + l.i) ((contest_at l.shape l.c).targets - l.i)) ≡ is_left l.shape l.s l.c
