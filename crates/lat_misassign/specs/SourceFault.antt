-- What is wrong first with a list of sources that is no misassignment.
use Rattle.std.specs.Prelude.{ℕ, ◌==◌, ◌+◌, List, [], ◌∷◌, length, take, not, nat_lt, if◌then◌else◌, Option, Some, None}
use Rattle.std.specs.List.{list_any}
use Rattle.lat_misassign.specs.declared.fault.MisFault.{MisFault}
use Rattle.lat_misassign.specs.declared.fault.MisFault.TheVariants.{OutOfRange, Repeated}

-- the first place, from place i on, whose source isn't below the length or stood before
abbrev pub fault_from : List ℕ → ℕ → List ℕ → Option MisFault
fault_from sources i [] = None
fault_from sources i (source ∷ rest) =
    if not (nat_lt source (length sources)) then Some (OutOfRange i)
    else if list_any (λ before. before == source) (take i sources) then Some (Repeated i)
    else fault_from sources (i + 1) rest

abbrev pub source_fault : List ℕ → Option MisFault
source_fault sources = fault_from sources 0 sources
