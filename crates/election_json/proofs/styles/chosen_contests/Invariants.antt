use Rattle.std.proofs.Common.{◌≡◌, drop, map, [], length}
use Rattle.serde_json.specs.View.{view}
use Rattle.election_json.specs.Entry.{each_from}
use Rattle.election_json.specs.Contests.{ids_of}
use Rattle.election_json.specs.Styles.{next_chosen}
use Rattle.election_json.specs.Kept.{entry_at, AreWithin}
use Rattle.election_json.proofs.styles.chosen_contests.Given as goal

-- the ids are those of the contests so far, and with what is left these give what all values give
abbrev pub invariant-loop-j : goal.invariant-loop-j
invariant-loop-j l = record {
  known : l.earlier ≡ ids_of (map (entry_at l.contests) l.chosen.items);
  rest : each_from (next_chosen l.contests l.i) l.j (map (entry_at l.contests) l.chosen.items)
      (map view (drop l.j l.values))
      ≡ each_from (next_chosen l.contests l.i) 0 [] (map view l.values);
  within : AreWithin l.contests l.chosen.items;
  count : length l.chosen.items ≡ l.j;
}
