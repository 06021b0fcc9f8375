use Rattle.std.proofs.Common.{◌≡◌, ◌++◌, drop}
use Rattle.std.specs.List.{flat_map, range_with_len}
use Rattle.lat_ballots.specs.Deck.{ballot_at}
use Rattle.deck_text.specs.TargetNames.{names_in}
use Rattle.deck_text.specs.DeckText.{mark_line}
use Rattle.deck_text.proofs.write_deck.write_contest.Given as goal

-- the rows of the marks at the contest's targets below i are there
abbrev pub invariant-loop-i : goal.invariant-loop-i
invariant-loop-i l =
    l.table ≡ l.fn.table ++ flat_map (mark_line (names_in l.contest) l.number (drop l.first (ballot_at l.deck l.j))) (range_with_len 0 l.i)
