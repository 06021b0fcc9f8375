use Rattle.std.proofs.Common.{◌≡◌, None, replicate}
use Rattle.deck_text.proofs.read_report.no_totals.Given as goal

abbrev pub invariant-loop : goal.invariant-loop
invariant-loop l = l.totals.items ≡ replicate l.counter None
