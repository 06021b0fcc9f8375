-- The entries of an array, one after the other.
use Rattle.std.specs.Prelude.{ℕ, ◌+◌, List, [], ◌∷◌, ◌++◌, Result, Ok}
use Rattle.serde_json.specs.Data.{Data}
use Rattle.election_json.specs.declared.fault.DefFault.{DefFault}
use Rattle.lat_base.specs.FirstFault.{◌>>=◌}

-- the values from number i on are read in order, each with its number and what the earlier ones
-- gave
unfoldable pub each_from : {X : Type 0} → (ℕ → List X → Data → Result X DefFault) → ℕ → List X
    → List Data → Result (List X) DefFault
each_from entry i earlier [] = Ok earlier
each_from entry i earlier (value ∷ values) =
    entry i earlier value >>= λ x. each_from entry (i + 1) (earlier ++ x ∷ []) values

-- what the entries of an array give, or the first fault
abbrev pub each : {X : Type 0} → (ℕ → List X → Data → Result X DefFault) → List Data
    → Result (List X) DefFault
each entry values = each_from entry 0 [] values
