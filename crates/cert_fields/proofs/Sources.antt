-- Sources that a misassignment has, and those that it can't have.
use Rattle.std.proofs.Common.{◌≡◌, ℕ, Bool, true, false, cond, List, length, Option, Some, None, refl}
use Rattle.cert_fields.specs.Reading.{u16_at, many_at}
use Rattle.cert_fields.specs.TreeReading.{is_count, sources_at}
use Rattle.std.specs.Prelude.{is_none}
use Rattle.lat_base.specs.Misassignment.{IsMisassignment}
use Rattle.lat_misassign.specs.declared.fault.MisFault.{MisFault}
use Rattle.lat_misassign.specs.SourceFault.{source_fault}
use Rattle.lat_misassign.proofs.Valid.{faulty}

by_fault : (s : List ℕ) (o : Option MisFault) → source_fault s ≡ o → IsMisassignment (length s) s
    → is_none o ≡ true
by_fault s None e h = refl
by_fault s (Some f) e h = absurd (faulty s f e h)

-- a misassignment has no fault
pub sound : (s : List ℕ) → IsMisassignment (length s) s → is_none (source_fault s) ≡ true
sound s h = by_fault s (source_fault s) refl h

-- a list with a fault is refused
pub faulty_none : (s : List ℕ) (f : MisFault) → source_fault s ≡ Some f
    → is_none (source_fault s) ≡ false
faulty_none s f e = rw e refl

-- what is read, by the steps of the reader
pub sources_read : (bytes : List ℕ) (n : ℕ) (rest s more : List ℕ) (b : Bool)
    → u16_at bytes ≡ Some (n, rest) → is_count n ≡ true
    → many_at u16_at n rest ≡ Some (s, more) → is_none (source_fault s) ≡ b
    → sources_at bytes ≡ cond b (Some (s, more)) None
sources_read bytes n rest s more b e k m f = rw (e, k, m, f) refl
