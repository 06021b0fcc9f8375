use Rattle.std.proofs.Common.{◌≡◌, ◌≤◌, ◌+◌, length}
use Rattle.lat_base.specs.Shape.{target_count}
use Rattle.deck_text.specs.ReportRead.{report_from}
use Rattle.deck_text.specs.RowCount.{total_rows}
use Rattle.deck_text.specs.TargetNames.{target_names}
use Rattle.deck_text.proofs.read_report.read_rows.Given as goal

-- what the rows that are left give is what all give
abbrev pub invariant-loop-fields : goal.invariant-loop-fields
invariant-loop-fields l = record {
  totals : report_from (target_names l.names.contests) l.row l.totals.items l.rows
      ≡ report_from (target_names l.names.contests) 2 l.fn.totals.items l.fn.rows;
  targets : length l.totals.items ≡ target_count l.shape;
  rows : l.row ≤ total_rows l.totals.items + 2;
}

abbrev pub decreases-loop-fields : goal.decreases-loop-fields
decreases-loop-fields l = length l.rows
