use Rattle.std.proofs.Common.{◌≡◌, drop, map, []}
use Rattle.serde_json.specs.View.{view}
use Rattle.election_json.specs.Entry.{each_from}
use Rattle.election_json.specs.Contests.{ids_of, next_contest}
use Rattle.election_json.proofs.contests.contest_entries.Given as goal

-- the ids are those of the contests so far, and with what is left these give what all values give
abbrev pub invariant-loop-i : goal.invariant-loop-i
invariant-loop-i l = record {
  known : l.ids ≡ ids_of l.entries.items;
  rest : each_from next_contest l.i l.entries.items (map view (drop l.i l.values))
      ≡ each_from next_contest 0 [] (map view l.values);
}
