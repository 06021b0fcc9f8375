-- The id of a style that is drawn is an id.
use Rattle.std.proofs.Common.{◌≡◌, ◌<◌, ◌≤◌, ◌^◌, ◌+◌, ◌%◌, ◌++◌, ◌∷◌, [], ℕ, true, List, refl, ◌∙◌, arith}
use Rattle.std.specs.Fmt.{decimal}
use Rattle.std.specs.List.{list_all}
use Rattle.std.proofs.lemmas.Bool.Decides.{nat_tests}
use Rattle.std.proofs.lemmas.Fmt.{decimal_by_steps, length-decimal-le}
use Rattle.std.proofs.lemmas.List.Folds.{list_all-append}
use Rattle.lat_base.specs.Id.{is_id, is_id_byte}
use Rattle.sample_styles.specs.SampleStyles.{sample_id}

digit_is_id_byte : (d : ℕ) → d < 10 → is_id_byte (48 + d) ≡ true
digit_is_id_byte d h = grind (arith, nat_tests)

last_digit : (d : ℕ) → d < 10 → list_all is_id_byte ((48 + d) ∷ []) ≡ true
last_digit d h = rw (digit_is_id_byte d h) refl

one_more : (n : ℕ) (ds : List ℕ) → 10 ≤ n → list_all is_id_byte ds ≡ true
    → list_all is_id_byte (ds ++ (48 + n % 10) ∷ []) ≡ true
one_more n ds h all =
    list_all-append is_id_byte ds ((48 + n % 10) ∷ [])
    ∙ rw (all, last_digit (n % 10) (omega arith)) refl

-- the digits of a number are bytes of ids
digits_are_id_bytes : (n : ℕ) → n < 2 ^ 64 → list_all is_id_byte (decimal n) ≡ true
digits_are_id_bytes n h =
    decimal_by_steps (λ m ds. list_all is_id_byte ds ≡ true) last_digit one_more n h

pub sample_id_fits : (i : ℕ) → i < 2 ^ 32 → is_id (sample_id i) ≡ true
sample_id_fits i h =
    let all = digits_are_id_bytes i (omega arith) in
    let short = length-decimal-le 10 i (omega arith) (omega arith) (omega arith) in
    grind (arith, nat_tests, all, short)
