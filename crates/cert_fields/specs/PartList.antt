-- The list of contests of a part of a style: its spelling, and how it is read.
use Rattle.std.specs.Prelude.{ℕ, ◌+◌, ◌++◌, ◌&&◌, nat_le, nat_lt, Bool, true, List, [], ◌∷◌, length}
use Rattle.std.specs.Prelude.{Option}
use Rattle.std.specs.List.{flat_map}
use Rattle.cert_fields.specs.Spelling.{u16_text}
use Rattle.cert_fields.specs.Reading.{◌>>=◌, u16_at, tested_at, many_at}

-- how many contests, and the contests
abbrev pub part_text : List ℕ → List ℕ
part_text contests = u16_text (length contests) ++ flat_map u16_text contests

-- ---- how it is read

-- from number `low` on, below `count`, rising
abbrev pub rises : ℕ → ℕ → List ℕ → Bool
rises count low [] = true
rises count low (c ∷ cs) = nat_le low c && nat_lt c count && rises count (c + 1) cs

-- at least one contest, in range and rising
abbrev pub is_part : ℕ → List ℕ → Bool
is_part count cs = nat_lt 0 (length cs) && rises count 0 cs

unfoldable pub part_at : ℕ → List ℕ → Option (List ℕ × List ℕ)
part_at count bytes = u16_at bytes >>= λ n. tested_at (is_part count) (many_at u16_at n.0) n.1
