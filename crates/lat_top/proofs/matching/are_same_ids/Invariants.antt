use Rattle.std.proofs.Common.{◌≡◌, take}
use Rattle.lat_top.proofs.matching.are_same_ids.Given as goal

-- the ids before this one are the same
abbrev pub invariant-loop-i : goal.invariant-loop-i
invariant-loop-i l = take l.i l.ids ≡ take l.i l.others
