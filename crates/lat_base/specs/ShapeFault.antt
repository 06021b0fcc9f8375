-- What is wrong first with a list of contests that is no ballot style.
use Rattle.std.specs.Prelude.{ℕ, ◌+◌, ◌&&◌, ◌==◌, is_some, List, [], ◌∷◌, length, Bool, not, nat_lt, nat_le, if◌then◌else◌, Option, Some, None}
use Rattle.lat_base.specs.declared.contest.Contest.{Contest}
use Rattle.lat_base.specs.declared.limits.TheConstants.{MOST_CONTESTS, MOST_TARGETS, MOST_IN_CONTEST, MOST_VOTES}
use Rattle.lat_base.specs.declared.shape_fault.ShapeFault.{ShapeFault}
use Rattle.lat_base.specs.declared.shape_fault.ShapeFault.TheVariants.{Empty, TooManyContests, BadLimit, BadCount, TooManyTargets}
use Rattle.lat_base.specs.Shape.{target_count}

-- a number from 1 to another
abbrev pub is_up_to : ℕ → ℕ → Bool
is_up_to most n = nat_lt 0 n && nat_le n most

-- the first contest, from number i on, whose limit or number of targets is out of range
abbrev pub contest_fault : ℕ → List Contest → Option ShapeFault
contest_fault i [] = None
contest_fault i (c ∷ contests) =
    if not (is_up_to MOST_VOTES c.limit) then Some (BadLimit i c.limit)
    else if not (is_up_to MOST_IN_CONTEST c.targets) then Some (BadCount i c.targets)
    else contest_fault (i + 1) contests

-- what is wrong first: no contest, too many, one out of range, or too many targets in all
abbrev pub shape_fault : List Contest → Option ShapeFault
shape_fault contests =
    if length contests == 0 then Some Empty
    else if nat_lt MOST_CONTESTS (length contests) then Some (TooManyContests (length contests))
    else if is_some (contest_fault 0 contests) then contest_fault 0 contests
    else if nat_lt MOST_TARGETS (target_count contests)
    then Some (TooManyTargets (target_count contests))
    else None
