use Rattle.std.proofs.Common.{◌≡◌, ◌≤◌, ◌*◌, map, take}
use Rattle.lat_base.specs.Shape.{target_count}
use Rattle.election_json.specs.Styles.{contest_shape}
use Rattle.election_json.specs.Kept.{entry_at}
use Rattle.election_json.proofs.styles.count_targets.Given as goal

-- the sum so far is of the contests so far, each of which has at most 64 targets
abbrev pub invariant-loop-number : goal.invariant-loop-number
invariant-loop-number l = record {
  sum : l.sum
      ≡ target_count (map contest_shape (map (entry_at l.contests) (take l.number-index l.chosen)));
  few : l.sum ≤ 64 * l.number-index;
}
