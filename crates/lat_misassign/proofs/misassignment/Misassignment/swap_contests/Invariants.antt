use Rattle.std.proofs.Common.{◌≡◌, map}
use Rattle.std.specs.List.{range_with_len}
use Rattle.lat_misassign.specs.Sources.{exchanged}
use Rattle.lat_misassign.proofs.misassignment.Misassignment.swap_contests.Given as goal

abbrev pub invariant-loop-u : goal.invariant-loop-u
invariant-loop-u l = l.sources.items ≡ map (exchanged l.shape l.c l.d) (range_with_len 0 l.u)
