use Rattle.std.proofs.Common.{◌≡◌, map}
use Rattle.std.specs.List.{range_with_len}
use Rattle.evade_space.specs.Votes.{may_vote, must_vote}
use Rattle.evade_space.proofs.count_all.count_all.Given as goal

abbrev pub invariant-loop-u : goal.invariant-loop-u
invariant-loop-u l = record {
  may : l.may.items ≡ map (may_vote l.space.contests l.space.deck l.sources) (range_with_len 0 l.u);
  must : l.must.items ≡ map (must_vote l.space.contests l.space.deck l.sources)
      (range_with_len 0 l.u);
}
