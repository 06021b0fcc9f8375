use Rattle.std.proofs.Common.{length}
use Rattle.lat_shelf.proofs.output.print_whole.Given as goal

-- the bytes that are left to write
abbrev pub decreases-loop-rest : goal.decreases-loop-rest
decreases-loop-rest g l = length l.rest
