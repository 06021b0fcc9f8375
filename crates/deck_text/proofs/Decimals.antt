-- The digits of a number are bytes of ids.
use Rattle.std.proofs.Common.{◌≡◌, ◌<◌, ◌+◌, ◌^◌, ◌%◌, ℕ, true, List, [], ◌∷◌, IsTrue, ap, ◌∙◌, refl, arith}
use Rattle.std.specs.List.{list_all}
use Rattle.std.specs.Fmt.{decimal}
use Rattle.std.proofs.lemmas.Fmt.{decimal_by_steps}
use Rattle.std.proofs.lemmas.Bool.{and_from}
use Rattle.std.proofs.lemmas.Bool.Decides.{nat_tests}
use Rattle.std.proofs.lemmas.List.Folds.{list_all-append}
use Rattle.lat_base.specs.Id.{is_id_byte}

digit : (n : ℕ) → n < 10 → is_id_byte (48 + n) ≡ true
digit n h = grind (arith, nat_tests)

decimal_ids : (n : ℕ) → n < 2 ^ 64 → list_all is_id_byte (decimal n) ≡ true
decimal_ids = decimal_by_steps (λ n ds. list_all is_id_byte ds ≡ true)
    (λ n low. and_from (is_id_byte (48 + n)) true (digit n low) refl)
    (λ n ds high all. list_all-append is_id_byte ds ((48 + n % 10) ∷ [])
    ∙ and_from (list_all is_id_byte ds) (list_all is_id_byte ((48 + n % 10) ∷ [])) all (and_from (is_id_byte (48 + n % 10)) true (digit (n % 10) (omega arith)) refl))

-- the same of a text that is such digits
pub number_ids : (text : List ℕ) (n : ℕ) → text ≡ decimal n → n < 2 ^ 64
    → IsTrue (list_all is_id_byte text)
number_ids text n e small = ap (list_all is_id_byte) e ∙ decimal_ids n small
