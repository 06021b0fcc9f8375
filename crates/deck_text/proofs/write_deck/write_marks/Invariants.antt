use Rattle.std.proofs.Common.{◌≡◌, ◌++◌, length, take}
use Rattle.std.specs.List.{flat_map, range_with_len}
use Rattle.lat_ballots.specs.Deck.{ballot_at}
use Rattle.deck_text.specs.TargetNames.{target_names}
use Rattle.deck_text.specs.DeckText.{mark_line}
use Rattle.deck_text.proofs.write_deck.write_marks.Given as goal

-- the rows of the marks in the contests before this one are there
abbrev pub invariant-loop-contest : goal.invariant-loop-contest
invariant-loop-contest l = record {
  place : l.first ≡ length (target_names (take l.contest-index l.names.contests));
  text : l.table ≡ l.fn.table ++ flat_map
      (mark_line (target_names l.names.contests) l.number (ballot_at l.deck l.j))
      (range_with_len 0 l.first);
}
