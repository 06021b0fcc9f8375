-- What a call that reads a table gives, beside what the reading gives.
use Rattle.std.specs.Prelude.{Option, Some, None, Result}
use Rattle.lat_base.specs.FirstFault.{GivesAs}
use Rattle.deck_text.specs.declared.fault.CsvFault.{CsvFault}
use Rattle.deck_text.specs.declared.fault.CsvFail.{CsvFail}
use Rattle.deck_text.specs.declared.fault.CsvFail.TheVariants as fail

-- the fault of the table, if it is one
abbrev pub fault_in : CsvFail → Option CsvFault
fault_in fail.Memory = None
fault_in (fail.Fault fault) = Some fault

-- a call gives what the reading gives, or fails as it does
abbrev pub Gives : {A B : Type 0} → (A → B) → Result A CsvFail → Result B CsvFault → Type 0
Gives = GivesAs fault_in
