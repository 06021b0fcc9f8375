use Rattle.std.proofs.Common.{◌≡◌, map, take, unwrap_or}
use Rattle.deck_text.proofs.read_report.all_totals.Given as goal

abbrev pub invariant-loop-total : goal.invariant-loop-total
invariant-loop-total l = l.all.items ≡ map (λ total. unwrap_or total 0) (take l.total-index l.totals)
