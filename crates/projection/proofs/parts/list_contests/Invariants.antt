use Rattle.std.proofs.Common.{◌≡◌, take}
use Rattle.lat_base.specs.Part.{part}
use Rattle.projection.proofs.parts.list_contests.Given as goal

abbrev pub invariant-loop-c : goal.invariant-loop-c
invariant-loop-c l = l.list.items ≡ part l.shape (take l.c-index l.contests)
