use Rattle.std.proofs.Common.{◌≡◌, map, take}
use Rattle.lat_ballots.specs.Row.{common_count}
use Rattle.evade_space.proofs.count_all.count_row.Given as goal

abbrev pub invariant-loop-j : goal.invariant-loop-j
invariant-loop-j l = l.row.items ≡ map (λ ballot. common_count ballot l.targets) (take l.j l.deck.ballots)
