use Rattle.std.proofs.Common.{◌≡◌, map}
use Rattle.std.specs.List.{range_with_len}
use Rattle.lat_base.specs.Tally.{total}
use Rattle.lat_tabulate.proofs.reports.report.Given as goal

abbrev pub invariant-loop-u : goal.invariant-loop-u
invariant-loop-u l = l.totals.items ≡ map (total l.shape l.deck.ballots l.s) (range_with_len 0 l.u)
