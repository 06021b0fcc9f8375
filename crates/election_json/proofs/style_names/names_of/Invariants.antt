use Rattle.std.proofs.Common.{◌≡◌, map, take}
use Rattle.election_json.specs.Styles.{contest_names}
use Rattle.election_json.specs.Kept.{entry_at}
use Rattle.election_json.proofs.style_names.names_of.Given as goal

-- the style's id, and the names of the contests so far
abbrev pub invariant-loop-number : goal.invariant-loop-number
invariant-loop-number l = record {
  style : l.names.style ≡ l.style.id;
  contests : l.names.contests ≡ map contest_names
      (map (entry_at l.contests) (take l.number-index l.style.contests.items));
}
