use Rattle.std.proofs.Common.{◌≡◌, ◌+◌, ◌-◌}
use Rattle.std.specs.List.{list_all, range_with_len}
use Rattle.readings.specs.Structural.{targets_of}
use Rattle.lat_base.specs.Shape.{contest_at}
use Rattle.close_rules.specs.Evading.{keeps_total}
use Rattle.close_rules.proofs.evading.keeps_totals.Given as goal

-- the totals are kept where those from here on are
abbrev pub invariant-loop-i : goal.invariant-loop-i
invariant-loop-i l = list_all (keeps_total l.state l.s) (range_with_len (l.first + l.i) ((contest_at l.state.contests l.c).targets - l.i)) ≡ list_all (keeps_total l.state l.s) (targets_of l.state.contests l.c)
