use Rattle.std.proofs.Common.{◌+◌, length}
use Rattle.cert_stream.specs.Phases.{IsPhase, rank}
use Rattle.cert_stream.specs.Stands.{Moves, IsTail}
use Rattle.cert_stream.proofs.stream.read_on.Given as goal

-- what was read so far leads here
abbrev pub invariant-loop-alloc : goal.invariant-loop-alloc
invariant-loop-alloc l = record {
  phase : IsPhase l.phase;
  moves : Moves l.fn.from l.bytes l.phase l.rest;
  tail : IsTail l.bytes l.rest;
}

abbrev pub decreases-loop-alloc : goal.decreases-loop-alloc
decreases-loop-alloc l = length l.rest + rank l.phase
