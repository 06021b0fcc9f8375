-- What bytes mean, where they are JSON and where they aren't.
use Rattle.std.proofs.Common.{◌≡◌, ℕ, List, Bool, true, false, None, Some, Err, if◌then◌else◌, refl}
use Rattle.std.specs.Str.{IsUtf8, is_utf8}
use Rattle.std.proofs.lemmas.Str.{is_utf8-from_IsUtf8, IsUtf8-from_is_utf8}
use Rattle.serde_json.specs.Data.{Data}
use Rattle.serde_json.specs.Read.{read}
use Rattle.election_json.specs.declared.fault.DefFault.TheVariants.{NotJson}
use Rattle.lat_base.specs.FirstFault.{◌>>=◌, or_fault}
use Rattle.election_json.specs.Definition.{definition_in, definition_of}

pub of_text : (bytes : List ℕ) (d : Data) → IsUtf8 bytes → read bytes ≡ Some d
    → definition_of bytes ≡ definition_in d
of_text bytes d text h = λ i. or_fault (if is_utf8-from_IsUtf8 bytes text i then h i else None) NotJson >>= definition_in

by_test : (bytes : List ℕ) (b : Bool) → (b ≡ true → read bytes ≡ None)
    → (or_fault (if b then read bytes else None) NotJson >>= definition_in) ≡ Err NotJson
by_test bytes true h = λ i. or_fault (h refl i) NotJson >>= definition_in
by_test bytes false h = refl

pub of_other : (bytes : List ℕ) → (IsUtf8 bytes → read bytes ≡ None)
    → definition_of bytes ≡ Err NotJson
of_other bytes h = by_test bytes (is_utf8 bytes) (λ t. h (IsUtf8-from_is_utf8 bytes t))
