use Rattle.std.proofs.Common.{◌≡◌, ◌≤◌, ◌+◌, length}
use Rattle.lat_base.specs.Shape.{target_count}
use Rattle.deck_text.specs.DeckRead.{deck_from}
use Rattle.deck_text.specs.RowCount.{deck_rows}
use Rattle.deck_text.specs.TargetNames.{target_names}
use Rattle.deck_text.proofs.read_deck.read_rows.Given as goal

-- what the rows that are left give is what all give
abbrev pub invariant-loop-fields : goal.invariant-loop-fields
invariant-loop-fields l = record {
  deck : deck_from (target_names l.names.contests) l.row l.draft l.rows
      ≡ deck_from (target_names l.names.contests) 2 l.fn.draft l.fn.rows;
  targets : l.draft.targets ≡ target_count l.shape;
  rows : l.row ≤ deck_rows l.draft.ballots + 2;
}

abbrev pub decreases-loop-fields : goal.decreases-loop-fields
decreases-loop-fields l = length l.rows
