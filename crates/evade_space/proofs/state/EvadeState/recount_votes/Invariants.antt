use Rattle.std.proofs.Common.{◌<◌, ℕ}
use Rattle.lat_base.specs.Shape.{first_target}
use Rattle.evade_space.specs.Recounts.{HasMarks, HasVotes, HasVotesBeside, KeepsRest}
use Rattle.evade_space.proofs.state.EvadeState.recount_votes.Given as goal

abbrev pub invariant-loop-c : goal.invariant-loop-c
invariant-loop-c l = record {
  marks : HasMarks l.space l.self;
  rest : KeepsRest l.initial.self l.self;
  beside : HasVotesBeside l.space l.self l.own;
  done : (w : ℕ) → w < first_target l.space.contests l.c → HasVotes l.space l.self w;
}
