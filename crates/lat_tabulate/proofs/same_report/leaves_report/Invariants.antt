use Rattle.std.proofs.Common.{◌≡◌, ◌<◌, ℕ}
use Rattle.lat_base.specs.Tally.{total, own_total}
use Rattle.lat_tabulate.proofs.same_report.leaves_report.Given as goal

abbrev pub invariant-loop-u : goal.invariant-loop-u
invariant-loop-u l = (x : ℕ) → x < l.u → total l.shape l.deck.ballots l.s x ≡ own_total l.shape l.deck.ballots x
