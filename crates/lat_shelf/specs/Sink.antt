-- What a program knows of the bytes that it gives.
use Rattle.std.specs.Prelude.{◌≡◌, ◌≤◌, ◌++◌, ℕ, List, take, length, Option, Some, None}

-- a front of the piece is added at the end, where the bytes are told
abbrev pub AddsFront : List ℕ → Option (List ℕ) → Option (List ℕ) → Type 0
AddsFront piece None after = after ≡ None
AddsFront piece (Some before) None = ⊥
AddsFront piece (Some before) (Some after) = (n : ℕ) × (n ≤ length piece)
    × (after ≡ before ++ take n piece)
