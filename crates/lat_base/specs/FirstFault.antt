-- Reading step by step, where the first fault is the answer.
use Rattle.std.specs.Prelude.{◌≡◌, Option, Some, None, Result, Ok, Err, ⊤}

-- a step after one that may be at fault
infixl 10 ◌>>=◌
abbrev pub ◌>>=◌ : {A B F : Type 0} → Result A F → (A → Result B F) → Result B F
(Ok x) >>= next = next x
(Err fault) >>= next = Err fault

-- what there is, or else the fault
abbrev pub or_fault : {A F : Type 0} → Option A → F → Result A F
or_fault None fault = Err fault
or_fault (Some x) fault = Ok x

-- a call fails at the fault of the reading; want of memory is no fault, and can come at any time
abbrev pub FailsAt : {A F : Type 0} → Option F → Result A F → Type 0
FailsAt None read = ⊤
FailsAt (Some fault) read = read ≡ Err fault

-- a call gives what the reading gives, or fails as it does
abbrev pub GivesAs : {A B E F : Type 0} → (E → Option F) → (A → B) → Result A E → Result B F
    → Type 0
GivesAs fault_of view (Ok x) read = read ≡ Ok (view x)
GivesAs fault_of view (Err e) read = FailsAt (fault_of e) read
