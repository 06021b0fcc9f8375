use Rattle.std.proofs.Common.{◌≡◌, take}
use Rattle.election_json.proofs.style_names.copy_ids.Given as goal

-- the ids so far
abbrev pub invariant-loop-id : goal.invariant-loop-id
invariant-loop-id l = l.copy ≡ take l.id-index l.ids
