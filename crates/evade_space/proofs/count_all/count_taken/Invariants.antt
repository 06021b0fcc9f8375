use Rattle.std.proofs.Common.{◌≡◌, map}
use Rattle.std.specs.List.{range_with_len}
use Rattle.evade_space.specs.Counts.{taken_in}
use Rattle.evade_space.proofs.count_all.count_taken.Given as goal

abbrev pub invariant-loop-c : goal.invariant-loop-c
invariant-loop-c l = map (λ row. row.items) l.rows.items ≡ map (taken_in l.space.contests l.space.deck l.sources) (range_with_len 0 l.c)
