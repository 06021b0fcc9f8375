use Rattle.std.proofs.Common.{◌≡◌, drop, map, [], All}
use Rattle.serde_json.specs.View.{view}
use Rattle.election_json.specs.Entry.{each_from}
use Rattle.election_json.specs.Styles.{style_ids, next_style}
use Rattle.election_json.specs.Kept.{kept_styles, IsWithin}
use Rattle.election_json.proofs.styles.style_entries.Given as goal

-- the ids are those of the styles so far, and with what is left these give what all values give
abbrev pub invariant-loop-i : goal.invariant-loop-i
invariant-loop-i l = record {
  known : l.ids ≡ style_ids (kept_styles l.contests l.styles.items);
  rest : each_from (next_style l.contests) l.i (kept_styles l.contests l.styles.items)
      (map view (drop l.i l.values)) ≡ each_from (next_style l.contests) 0 [] (map view l.values);
  within : All (IsWithin l.contests) l.styles.items;
}
