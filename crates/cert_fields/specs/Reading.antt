-- Reading from left to right, as functions on lists: a value and the bytes behind it, or nothing.
-- They say how the readers go; what is read is said by the spellings alone.
use Rattle.std.specs.Prelude.{◌≡◌, ℕ, zero, suc, ◌+◌, ◌*◌, List, [], ◌∷◌, length, take, drop, Bool}
use Rattle.std.specs.Prelude.{Option, Some, None, Result, Ok, Err, nat_lt, if◌then◌else◌}
use Rattle.lat_base.specs.Id.{is_id}
use Rattle.cert_fields.specs.declared.fault.CertFault.{CertFault}
use Rattle.cert_fields.specs.declared.fault.CertFault.TheVariants.{NotACertificate, Memory}

-- how a field is read: its value and the bytes behind it
abbrev pub Reader : Type 0 → Type 0
Reader A = List ℕ → Option (A × List ℕ)

infixl 10 ◌>>=◌
abbrev pub ◌>>=◌ : {A B : Type 0} → Option A → (A → Option B) → Option B
None >>= f = None
(Some x) >>= f = f x

-- what a function returned, seen by view, is what reading gives, unless memory ran out
abbrev pub Gives : {X Y : Type 0} → (X → Y) → Result X CertFault → Option Y → Type 0
Gives view (Ok x) read = read ≡ Some (view x)
Gives view (Err NotACertificate) read = read ≡ None
Gives view (Err Memory) read = Unit {0}

-- one byte
abbrev pub u8_at : List ℕ → Option (ℕ × List ℕ)
u8_at [] = None
u8_at (b ∷ bytes) = Some (b, bytes)

-- two bytes
abbrev pub u16_at : List ℕ → Option (ℕ × List ℕ)
u16_at [] = None
u16_at (b ∷ []) = None
u16_at (b ∷ c ∷ bytes) = if nat_lt c 256 then Some (b * 256 + c, bytes) else None

-- one field and then another, which may depend on it
abbrev pub pair_at : {A B : Type 0} → Reader A → (A → Reader B) → Reader (A × B)
pair_at first second bytes = first bytes >>= λ a. second a.0 a.1 >>= λ b. Some ((a.0, b.0), b.1)

-- a field whose value passes a test
abbrev pub tested_at : {A : Type 0} → (A → Bool) → Reader A → Reader A
tested_at test field bytes = field bytes >>= λ a. if test a.0 then Some a else None

-- a field seen as another value
abbrev pub made_at : {A B : Type 0} → (A → B) → Reader A → Reader B
made_at make field bytes = field bytes >>= λ a. Some (make a.0, a.1)

-- so many fields
abbrev pub many_at : {A : Type 0} → Reader A → ℕ → Reader (List A)
many_at field zero bytes = Some ([], bytes)
many_at field (suc n) bytes =
    field bytes >>= λ a. many_at field n a.1 >>= λ others. Some (a.0 ∷ others.0, others.1)

-- so many bytes
abbrev pub bytes_at : ℕ → List ℕ → Option (List ℕ × List ℕ)
bytes_at n bytes = if nat_lt (length bytes) n then None else Some (take n bytes, drop n bytes)

abbrev pub two_at : List ℕ → Option ((ℕ × ℕ) × List ℕ)
two_at = pair_at u16_at (λ _. u16_at)

abbrev pub id_at : List ℕ → Option (List ℕ × List ℕ)
id_at bytes = u8_at bytes >>= λ n. tested_at is_id (bytes_at n.0) n.1
