-- The bytes of an id are text.
use Rattle.std.proofs.Common.{◌≡◌, ◌<◌, ℕ, true, List, [], ◌∷◌, arith}
use Rattle.std.specs.Prelude.{All, IsUtf8}
use Rattle.std.specs.List.{list_all}
use Rattle.std.proofs.lemmas.Bool.{and_parts}
use Rattle.std.proofs.lemmas.Bool.Decides.{nat_tests}
use Rattle.std.proofs.lemmas.List.Elements.{All-cons, All-nil}
use Rattle.std.proofs.lemmas.Str.{IsUtf8-from_ascii}
use Rattle.std.proofs.lemmas.Str.Ascii.{IsAscii-from_all}
use Rattle.lat_base.specs.Id.{is_id, is_id_byte}

id_byte_small : (b : ℕ) → is_id_byte b ≡ true → b < 128
id_byte_small b h = grind (arith, nat_tests, h)

all_small : (bytes : List ℕ) → list_all is_id_byte bytes ≡ true → All (λ b. b < 128) bytes
all_small [] h = All-nil (λ (b : ℕ). b < 128)
all_small (b ∷ bytes) h =
    let parts = and_parts (is_id_byte b) (list_all is_id_byte bytes) h in
    All-cons (λ (x : ℕ). x < 128) b bytes (id_byte_small b parts.0) (all_small bytes parts.1)

id_bytes : (id : List ℕ) → is_id id ≡ true → list_all is_id_byte id ≡ true
id_bytes id h = grind (arith, nat_tests, h)

pub id_is_text : (id : List ℕ) → is_id id ≡ true → IsUtf8 id
id_is_text id h = IsUtf8-from_ascii id (IsAscii-from_all id (all_small id (id_bytes id h)))
