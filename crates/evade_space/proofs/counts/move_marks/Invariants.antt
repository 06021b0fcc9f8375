use Rattle.std.proofs.Common.{◌≡◌, ◌<◌, ◌≤◌, ◌+◌, ℕ, [], cond, length, get_or}
use Rattle.lat_ballots.specs.Columns.{has_mark}
use Rattle.evade_space.proofs.counts.move_marks.Given as goal

abbrev pub invariant-loop-j : goal.invariant-loop-j
invariant-loop-j l = record {
  from_long : length l.from.items ≡ length l.space.deck;
  to_long : length l.to.items ≡ length l.space.deck;
  fewer : (k : ℕ) → k < l.j → get_or l.from.items k 0 + cond
      (has_mark l.t (get_or l.space.deck k [])) 1 0 ≡ get_or l.initial.from.items k 0;
  more : (k : ℕ) → k < l.j → get_or l.to.items k 0
      ≡ get_or l.initial.to.items k 0 + cond (has_mark l.t (get_or l.space.deck k [])) 1 0;
  from_rest : (k : ℕ) → l.j ≤ k → get_or l.from.items k 0 ≡ get_or l.initial.from.items k 0;
  to_rest : (k : ℕ) → l.j ≤ k → get_or l.to.items k 0 ≡ get_or l.initial.to.items k 0;
}
