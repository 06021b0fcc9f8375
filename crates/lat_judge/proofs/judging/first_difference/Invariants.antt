use Rattle.std.proofs.Common.{◌≡◌, ◌<◌, ℕ}
use Rattle.std.specs.Prelude.{slice_get}
use Rattle.lat_judge.specs.Judging.{own_report}
use Rattle.lat_judge.proofs.judging.first_difference.Given as goal

-- the totals before this target are equal
abbrev pub invariant-loop-t : goal.invariant-loop-t
invariant-loop-t l =
    (u : ℕ) → u < l.t → slice_get l.reported u ≡ slice_get (own_report l.shape l.deck.ballots) u
