use Rattle.std.proofs.Common.{◌≡◌, map, take}
use Rattle.election_json.specs.Styles.{contest_shape}
use Rattle.election_json.specs.Kept.{entry_at}
use Rattle.election_json.proofs.style_shape.contest_shapes.Given as goal

-- the contests so far
abbrev pub invariant-loop-number : goal.invariant-loop-number
invariant-loop-number l = l.shapes.items ≡ map contest_shape (map (entry_at l.contests) (take l.number-index l.chosen))
