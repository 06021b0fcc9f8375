use Rattle.std.proofs.Common.{◌≡◌, ◌<◌, ℕ, get_or}
use Rattle.lat_base.specs.Tally.{total}
use Rattle.lat_tabulate.proofs.wanted_report.gives_report.Given as goal

abbrev pub invariant-loop-u : goal.invariant-loop-u
invariant-loop-u l =
    (x : ℕ) → x < l.u → total l.shape l.deck.ballots l.s x ≡ get_or l.totals x 0
