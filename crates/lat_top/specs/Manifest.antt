-- The manifest of files.
use Rattle.std.specs.Prelude.{ℕ, List, codes, flat_map}
use Rattle.deck_text.specs.ManifestText.{manifest_line}

abbrev pub manifest_name : List ℕ
manifest_name = codes "manifest.txt"

-- a line for each file
abbrev pub manifest : List (List ℕ × List ℕ) → List ℕ
manifest files = flat_map (λ file. manifest_line file.0 file.1) files
