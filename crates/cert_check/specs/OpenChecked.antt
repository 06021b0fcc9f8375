-- What the check of an open file answers.
use Rattle.std.specs.Prelude.{ℕ, Option, Some, None}
use Rattle.cert_types.specs.declared.part.Part.{Part}
use Rattle.cert_types.specs.Holding.{OpenHolds, IsOpenFault}
use Rattle.cert_types.specs.OpenValue.{OpenValue}

-- nothing where it holds; else its first fault
abbrev pub IsOpenChecked : OpenValue → Option (Part × ℕ) → Type 0
IsOpenChecked file None = OpenHolds file
IsOpenChecked file (Some fault) = IsOpenFault file fault.0 fault.1
