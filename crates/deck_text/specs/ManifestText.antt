-- The manifest: a line for each file, as `sha256sum` writes and reads them.
use Rattle.std.specs.Prelude.{ℕ, ◌++◌, List, codes}
use Rattle.hex.specs.Hex.{encode_lower}
use Rattle.sha2.specs.Sha256.{sha256}

-- the SHA-256 of the file's bytes (FIPS 180-4) as 64 lower case hexadecimal digits, two spaces, and
-- the file's name
abbrev pub manifest_line : List ℕ → List ℕ → List ℕ
manifest_line name bytes = encode_lower (sha256 bytes) ++ codes "  " ++ name ++ codes "\n"
