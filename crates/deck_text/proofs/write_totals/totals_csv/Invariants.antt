use Rattle.std.proofs.Common.{◌≡◌, ◌++◌}
use Rattle.std.specs.List.{flat_map, range_with_len}
use Rattle.deck_text.specs.TargetNames.{target_names}
use Rattle.deck_text.specs.TotalsText.{totals_header, total_line}
use Rattle.deck_text.proofs.write_totals.totals_csv.Given as goal

-- the rows of the targets below t are there
abbrev pub invariant-loop-t : goal.invariant-loop-t
invariant-loop-t l =
    l.table ≡ totals_header ++ flat_map (total_line l.shape (target_names l.names.contests) l.deck.ballots) (range_with_len 0 l.t)
