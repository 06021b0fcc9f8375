use Rattle.std.proofs.Common.{◌≡◌, ◌<◌, ◌≤◌, ◌⊎◌, ℕ, get_or}
use Rattle.lat_base.specs.Shape.{first_target}
use Rattle.evade_space.specs.Recounts.{HasMarks, HasVotes, KeepsRest}
use Rattle.evade_space.proofs.state.EvadeState.recount_contest.Given as goal

abbrev pub invariant-loop-u : goal.invariant-loop-u
invariant-loop-u l = record {
  marks : HasMarks l.space l.self;
  rest : KeepsRest l.initial.self l.self;
  here : (w : ℕ) → first_target l.space.contests l.c ≤ w → w < l.u → HasVotes l.space l.self w;
  may : (w : ℕ) → (w < first_target l.space.contests l.c) ⊎ (l.u ≤ w)
      → get_or l.self.counts.may w 0 ≡ get_or l.initial.self.counts.may w 0;
  must : (w : ℕ) → (w < first_target l.space.contests l.c) ⊎ (l.u ≤ w)
      → get_or l.self.counts.must w 0 ≡ get_or l.initial.self.counts.must w 0;
}
