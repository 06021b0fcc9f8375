-- Reading a file to its end.
use Rattle.std.specs.Prelude.{◌≡◌, ◌<◌, ◌≤◌, ◌++◌, ℕ, List, length, Option, Some, None, IfSome, ⊤}
use Rattle.std.specs.FinMap.{get}
use Rattle.lat_shelf.specs.Shelf.{Files}

-- the bytes are the named file's, where files are told
abbrev pub IsFile : Option Files → List ℕ → List ℕ → Type 0
IsFile files name bytes = IfSome files (λ fs. get fs name ≡ Some bytes)

-- the named file has more bytes than the limit, where files are told
abbrev pub IsLonger : Option Files → List ℕ → ℕ → Type 0
IsLonger files name limit = IfSome files
    (λ fs. (bytes : List ℕ) × (get fs name ≡ Some bytes) × (limit < length bytes))

-- these bytes and those left are the named file's, where both are told
abbrev pub ReadSoFar : Option Files → List ℕ → List ℕ → Option (List ℕ) → Type 0
ReadSoFar None name bytes left = ⊤
ReadSoFar (Some files) name bytes None = ⊤
ReadSoFar (Some files) name bytes (Some rest) = get files name ≡ Some (bytes ++ rest)

-- some bytes, in one order, were taken in behind those for which it stood before
pub record TookIn (stood stands : List ℕ → Type 0) (bytes : List ℕ) : Type 0 where
  pub behind : (front : List ℕ) → stood front → stands (front ++ bytes)

-- the bytes of the named file, of which there are no more than the limit, were taken in
pub record TookFile (files : Option Files) (name : List ℕ) (limit : ℕ)
    (stood stands : List ℕ → Type 0) : Type 0 where
  pub bytes : List ℕ
  pub is_file : IsFile files name bytes
  pub few : length bytes ≤ limit
  pub took : TookIn stood stands bytes
