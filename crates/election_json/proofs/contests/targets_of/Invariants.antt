use Rattle.std.proofs.Common.{◌≡◌, drop, map, []}
use Rattle.serde_json.specs.View.{view}
use Rattle.election_json.specs.Entry.{each_from}
use Rattle.election_json.specs.Contests.{target_entry}
use Rattle.election_json.proofs.contests.targets_of.Given as goal

-- the ids so far are the earlier ones, and with what is left they give what all values give
abbrev pub invariant-loop-j : goal.invariant-loop-j
invariant-loop-j l = record {
  known : l.earlier ≡ l.ids;
  rest : each_from (target_entry l.i) l.j l.ids (map view (drop l.j l.values))
      ≡ each_from (target_entry l.i) 0 [] (map view l.values);
}
