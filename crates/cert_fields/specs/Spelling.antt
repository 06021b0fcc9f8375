-- The spellings of numbers and ids, and what a reader of a field answers.
use Rattle.std.specs.Prelude.{◌≡◌, ◌≤◌, ◌/◌, ◌%◌, ◌∷◌, [], ℕ, List, length, take, Result, Ok, Err}
use Rattle.std.specs.Prelude.{true}
use Rattle.lat_base.specs.Id.{is_id}
use Rattle.cert_fields.specs.declared.fault.CertFault.{CertFault}
use Rattle.cert_fields.specs.declared.fault.CertFault.TheVariants.{NotACertificate, Memory}

-- a number in two bytes, the high one first
abbrev pub u16_text : ℕ → List ℕ
u16_text n = n / 256 ∷ n % 256 ∷ []

-- an id: its length in one byte, and its bytes
abbrev pub id_text : List ℕ → List ℕ
id_text id = length id ∷ id

abbrev pub IsText : List ℕ → Type 0
IsText id = is_id id ≡ true

-- the first n bytes are the spelling of a value
pub record Begins {V : Type 0} (Fits : V → Type 0) (text : V → List ℕ) (bytes : List ℕ) (v : V)
    (n : ℕ) : Type 0 where
  pub fits : Fits v
  pub within : n ≤ length bytes
  pub spelled : take n bytes ≡ text v

-- what a reader of a field answers: the value whose spelling the bytes begin with, and its length;
-- or that they begin with none
abbrev pub Takes : {V : Type 0} → (V → Type 0) → (V → List ℕ) → Result (V × ℕ) CertFault
    → List ℕ → Type 0
Takes Fits text (Ok x) bytes = Begins Fits text bytes x.0 x.1
Takes {V} Fits text (Err NotACertificate) bytes = (v : V) (n : ℕ) → Begins Fits text bytes v n → ⊥
Takes Fits text (Err Memory) bytes = Unit {0}
