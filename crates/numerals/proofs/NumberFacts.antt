-- Numerals, and what parse makes of them.
use Rattle.std.proofs.Common.{◌≡◌, ◌<◌, ◌≤◌, ◌^◌, ℕ, true, List, length, get_or, Some, None, Err, zero, suc, ap, sym, ◌∙◌, subst, arith, rules}
use Rattle.std.specs.Prelude.{◌↔◌, IsUtf8}
use Rattle.std.specs.Fmt.{decimal}
use Rattle.std.specs.List.{list_all}
use Rattle.std.specs.Char.{is_ascii_digit}
use Rattle.std.specs.Str.Parse.{ParsesUnsigned, digits_value}
use Rattle.std.proofs.lemmas.Str.{IsUtf8-from_ascii}
use Rattle.std.proofs.lemmas.Str.Parse.{IsNumeralModel, IsDigitsTest, numerals_by_value, parse_digits}
use Rattle.std.proofs.lemmas.Fmt.{IsAscii-from_digits, decimal-digits_value, digits_decimal, digits_value-decimal, decimal_nonempty, first_decimal, decimal_digit}
use Rattle.std.proofs.lemmas.Bool.Decides.{nat_tests}
use Rattle.numerals.specs.Numerals.{is_numeral, number_of}

digits_test : IsDigitsTest (λ ds. list_all is_ascii_digit ds ≡ true)
digits_test = search rules

-- digits are numerals
pub digits : IsNumeralModel (λ ds. list_all is_ascii_digit ds ≡ true) (digits_value 10)
digits = numerals_by_value _ digits_test

all_digits : (text : List ℕ) → is_numeral text ≡ true → list_all is_ascii_digit text ≡ true
all_digits text plain = grind (arith, nat_tests, plain)

-- a numeral is text
pub numeral_is_text : (text : List ℕ) → is_numeral text ≡ true → IsUtf8 text
numeral_is_text text plain =
    IsUtf8-from_ascii text (IsAscii-from_digits text (digits.to text (all_digits text plain)))

-- a numeral that doesn't parse is a number of more than 64 bits
pub too_large : {E : Type 0} (text : List ℕ) (e : E) → ParsesUnsigned {E = E} 64 10 text (Err e)
    → is_numeral text ≡ true → 2 ^ 64 ≤ digits_value 10 text
too_large text e h plain =
    let some : 0 < length text = grind (arith, nat_tests, plain) in
    let no = parse_digits digits 64 text (Err e) h (all_digits text plain) in
    grind (arith, no)

pub no_number : (low high : ℕ) (text : List ℕ) → high < 2 ^ 64 → 2 ^ 64 ≤ digits_value 10 text
    → number_of low high text ≡ None
no_number low high text small large = grind (arith, nat_tests)

-- the same text parses alike
pub parses_same : {E : Type 0} (text same : List ℕ) (e : E) → text ≡ same
    → ParsesUnsigned {E = E} 64 10 text (Err e) → ParsesUnsigned {E = E} 64 10 same (Err e)
parses_same {E} text same e is h =
    subst (λ (t : List ℕ). ParsesUnsigned {E = E} 64 10 t (Err e)) is h

-- digits of which a 0 is first only where it is alone are a numeral
numeral_from : (text : List ℕ) → 0 < length text → (get_or text 0 0 ≡ 48 → length text ≡ 1)
    → list_all is_ascii_digit text ≡ true → is_numeral text ≡ true
numeral_from text some lead all = grind (arith, nat_tests, some, lead, all)

lead_of : (text : List ℕ) → is_numeral text ≡ true → get_or text 0 0 ≡ 48 → length text ≡ 1
lead_of text plain lead = grind (arith, nat_tests, plain, lead)

some_digit : (text : List ℕ) → is_numeral text ≡ true → 0 < length text
some_digit text plain = grind (arith, nat_tests, plain)

-- only 0 is written with a 0 first
decimal_lead : (n : ℕ) → n < 2 ^ 64 → get_or (decimal n) 0 0 ≡ 48 → length (decimal n) ≡ 1
decimal_lead zero small is = ap length (decimal_digit 0 (omega arith))
decimal_lead (suc n) small is =
    let first = first_decimal (suc n) (omega arith) small in absurd (omega (arith, first, is))

-- what is written of a number is a numeral
decimal_is_numeral : (n : ℕ) → n < 2 ^ 64 → is_numeral (decimal n) ≡ true
decimal_is_numeral n small =
    numeral_from (decimal n) (decimal_nonempty n small) (decimal_lead n small) (digits_decimal digits n small)

-- a numeral is what is written of its value
written : (text : List ℕ) → is_numeral text ≡ true → digits_value 10 text < 2 ^ 64
    → decimal (digits_value 10 text) ≡ text
written text plain small =
    decimal-digits_value digits text (all_digits text plain) (some_digit text plain) (lead_of text plain) small

-- the parts of a number's being read
record IsRead (low high : ℕ) (text : List ℕ) (n : ℕ) : Type 0 where
  plain : is_numeral text ≡ true
  value : digits_value 10 text ≡ n
  above : low ≤ n
  below : n ≤ high

is_read : (low high : ℕ) (text : List ℕ) (n : ℕ) → number_of low high text ≡ Some n
    → IsRead low high text n
is_read low high text n said = record {
  plain = grind (arith, nat_tests, said);
  value = grind (arith, nat_tests, said);
  above = grind (arith, nat_tests, said);
  below = grind (arith, nat_tests, said);
}

number_read : (low high : ℕ) (text : List ℕ) (n : ℕ) → is_numeral text ≡ true
    → digits_value 10 text ≡ n → low ≤ n → n ≤ high → number_of low high text ≡ Some n
number_read low high text n plain value above below =
    grind (arith, nat_tests, plain, value, above, below)

-- a text is the numeral of a number in a range exactly where it is what is written of it
pub spelled : (low high : ℕ) (text : List ℕ) → high < 2 ^ 64 → (n : ℕ)
    → (number_of low high text ≡ Some n) ↔ ((low ≤ n) × (n ≤ high) × (decimal n ≡ text))
spelled low high text small n = (
  (λ said. let r = is_read low high text n said in (
    r.above,
    r.below,
    ap decimal (sym r.value) ∙ written text r.plain (grind (arith, r.value, r.below, small)),
  )),
  (λ h. rw (sym h.2) (number_read low high (decimal n) n (decimal_is_numeral n (grind (arith, h.1, small))) (digits_value-decimal digits n (grind (arith, h.1, small))) h.0 h.1)),
)
