-- What a call that reads a definition gives, beside what the reading gives.
use Rattle.std.specs.Prelude.{Option, Some, None, Result}
use Rattle.lat_base.specs.FirstFault.{GivesAs}
use Rattle.election_json.specs.declared.fault.DefFault.{DefFault}
use Rattle.election_json.specs.declared.fault.DefFail.{DefFail}
use Rattle.election_json.specs.declared.fault.DefFail.TheVariants as fail

-- the fault of the definition, if it is one
abbrev pub fault_in : DefFail → Option DefFault
fault_in fail.Memory = None
fault_in (fail.Fault fault) = Some fault

-- a call gives what the reading gives, or fails as it does
abbrev pub Gives : {A B : Type 0} → (A → B) → Result A DefFail → Result B DefFault → Type 0
Gives = GivesAs fault_in
