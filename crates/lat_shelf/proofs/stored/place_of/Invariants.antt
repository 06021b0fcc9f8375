use Rattle.std.proofs.Common.{◌≡◌, drop}
use Rattle.std.specs.FinMap.{get}
use Rattle.lat_shelf.specs.Stored.{files_of}
use Rattle.lat_shelf.proofs.stored.place_of.Given as goal

-- no file before this place has the name
abbrev pub invariant-loop-i : goal.invariant-loop-i
invariant-loop-i l = get (files_of (drop l.i l.stored)) l.name ≡ get (files_of l.stored) l.name
