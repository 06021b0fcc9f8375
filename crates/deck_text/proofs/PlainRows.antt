-- A row whose fields have only the bytes of ids is written as it stands.
use Rattle.std.proofs.Common.{◌≡◌, ℕ, true, false, List, [], ◌∷◌, refl, arith, append_assoc}
use Rattle.std.specs.List.{list_all, list_any}
use Rattle.std.proofs.lemmas.Bool.{and_parts, or_from}
use Rattle.std.proofs.lemmas.Bool.Decides.{nat_tests}
use Rattle.std.proofs.lemmas.List.{append-nil}
use Rattle.csv.specs.Writing.{default_writer, needs_byte, field_text, row_text, fields_text, is_blank}
use Rattle.lat_base.specs.Id.{is_id_byte}
use Rattle.deck_text.specs.Line.{line}

plain_byte : (b : ℕ) → is_id_byte b ≡ true → needs_byte default_writer b ≡ false
plain_byte b h = grind (arith, nat_tests)

plain : (field : List ℕ) → list_all is_id_byte field ≡ true
    → list_any (needs_byte default_writer) field ≡ false
plain [] h = refl
plain (b ∷ field) h =
    let parts = and_parts (is_id_byte b) (list_all is_id_byte field) h in
    or_from (needs_byte default_writer b) (list_any (needs_byte default_writer) field) (plain_byte b parts.0) (plain field parts.1)

plain_text : (field : List ℕ) → list_all is_id_byte field ≡ true
    → field_text default_writer field ≡ field
plain_text field h = rw (plain field h) refl

pub row_line : (a b c : List ℕ) → list_all is_id_byte a ≡ true → list_all is_id_byte b ≡ true
    → list_all is_id_byte c ≡ true
    → row_text default_writer (a ∷ b ∷ c ∷ []) ≡ line a b c
unfolding fields_text is_blank
row_line a b c ha hb hc = rw (plain_text a ha, plain_text b hb, plain_text c hc) (simp (append_assoc, append-nil))
