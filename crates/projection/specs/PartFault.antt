-- What is wrong first with a list of contests that is no part of a style.
use Rattle.std.specs.Prelude.{ℕ, ◌+◌, ◌==◌, List, [], ◌∷◌, length, nat_le, nat_lt, if◌then◌else◌, Option, Some, None}
use Rattle.lat_base.specs.declared.contest.Contest.{Contest}
use Rattle.projection.specs.declared.part_fault.PartFault.{PartFault}
use Rattle.projection.specs.declared.part_fault.PartFault.TheVariants.{Empty, OutOfRange, NotRising}

-- the first bad place, from number i on, of a style of n contests: a contest that isn't in the
-- style, or is below the least that may follow
abbrev pub place_fault : ℕ → ℕ → ℕ → List ℕ → Option PartFault
place_fault n i least [] = None
place_fault n i least (c ∷ chosen) =
    if nat_le n c then Some (OutOfRange i)
    else if nat_lt c least then Some (NotRising i)
    else place_fault n (i + 1) (c + 1) chosen

-- no contest at all, or the first bad place, where each contest must be above the one before
abbrev pub part_fault : List Contest → List ℕ → Option PartFault
part_fault contests chosen =
    if length chosen == 0 then Some Empty
    else place_fault (length contests) 0 0 chosen
