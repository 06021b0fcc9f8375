use Rattle.std.proofs.Common.{◌≡◌, ◌++◌}
use Rattle.std.specs.List.{flat_map, range_with_len}
use Rattle.deck_text.specs.TargetNames.{target_names}
use Rattle.deck_text.specs.DeckText.{deck_header, numbered_lines}
use Rattle.deck_text.proofs.write_deck.deck_csv.Given as goal

-- the rows of the ballots below j are there
abbrev pub invariant-loop-j : goal.invariant-loop-j
invariant-loop-j l =
    l.table ≡ deck_header ++ flat_map (numbered_lines (target_names l.names.contests) l.deck.ballots) (range_with_len 0 l.j)
