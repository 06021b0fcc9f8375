-- A row of a table, as it stands in a file.
use Rattle.std.specs.Prelude.{ℕ, List, ◌++◌, codes}

-- three fields with a comma between each two, and one line feed
abbrev pub line : List ℕ → List ℕ → List ℕ → List ℕ
line first second third = first ++ codes "," ++ second ++ codes "," ++ third ++ codes "\n"
