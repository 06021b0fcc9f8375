-- Decimal numerals.
use Rattle.std.specs.Prelude.{ℕ, ◌==◌, ◌&&◌, ◌||◌, Bool, List, length, get_or, not, nat_lt, nat_le}
use Rattle.std.specs.Prelude.{if◌then◌else◌, Option, Some, None}
use Rattle.std.specs.List.{list_all}
use Rattle.std.specs.Char.{is_ascii_digit}
use Rattle.std.specs.Str.Parse.{digits_value}

-- one decimal digit or more, with no 0 before another
abbrev pub is_numeral : List ℕ → Bool
is_numeral text = nat_lt 0 (length text)
    && ((length text == 1) || not (get_or text 0 0 == 48)) && list_all is_ascii_digit text

-- the number that a text is, where it is a numeral in that range
abbrev pub number_of : ℕ → ℕ → List ℕ → Option ℕ
number_of low high text =
    if is_numeral text && nat_le low (digits_value 10 text)
    && nat_le (digits_value 10 text) high
    then Some (digits_value 10 text) else None
