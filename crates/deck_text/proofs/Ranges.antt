-- Texts that are made number by number.
use Rattle.std.proofs.Common.{◌≡◌, ◌+◌, ◌++◌, ℕ, List, ap, sym, ◌∙◌}
use Rattle.std.specs.List.{flat_map, range_with_len}
use Rattle.std.proofs.lemmas.List.{flat_map_more}
use Rattle.lemmas.proofs.Ranges.{range_more}

-- the piece of the next number
pub lines_more : (f : ℕ → List ℕ) (text : List ℕ) (n : ℕ)
    → text ++ flat_map f (range_with_len 0 (n + 1)) ≡ (text ++ flat_map f (range_with_len 0 n))
    ++ f n
lines_more f text n =
    ap (λ (ns : List ℕ). text ++ flat_map f ns) (range_more n) ∙ sym (flat_map_more f text (range_with_len 0 n) n)
